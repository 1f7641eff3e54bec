use Rattle.serde_json.specs.View.{view}
use Rattle.rpc_calls.proofs.RequestLemmas as lemma
use Rattle.rpc_calls.proofs.print.print_call.Goals as goal

pub returns-in-Ping-clause-again : goal.returns-in-Ping-clause-again
returns-in-Ping-clause-again c = lemma.called_ping c.get_of.result c.args.call.now c.get_of.ensures c.in-Ping.is

pub returns-in_ok-listed-in-List-clause-again : goal.returns-in_ok-listed-in-List-clause-again
returns-in_ok-listed-in-List-clause-again c =
    lemma.called c.operation.result (view c.in_ok-listed-in-List.field-0) _ _ c.args.call.now c.operation.ensures.again c.in_ok-listed-in-List.ensures lemma.list_again c.in-List.is

pub returns-in_ok-named-in-Source-clause-again : goal.returns-in_ok-named-in-Source-clause-again
returns-in_ok-named-in-Source-clause-again c =
    lemma.called c.operation-in-Source.result (view c.in_ok-named-in-Source.field-0) _ _ c.args.call.now c.operation-in-Source.ensures.again c.in_ok-named-in-Source.ensures (lemma.source_again _) c.in-Source.is

pub returns-in_ok-with_id-in-SourceById-clause-again : goal.returns-in_ok-with_id-in-SourceById-clause-again
returns-in_ok-with_id-in-SourceById-clause-again c =
    lemma.called c.operation-in-SourceById.result (view c.in_ok-with_id-in-SourceById.field-0) _ _ c.args.call.now c.operation-in-SourceById.ensures.again c.in_ok-with_id-in-SourceById.ensures.value (lemma.source_by_id_again _ c.in_ok-with_id-in-SourceById.ensures.fits) c.in-SourceById.is

pub returns-in_ok-with_uri-in-SourceByUri-clause-again : goal.returns-in_ok-with_uri-in-SourceByUri-clause-again
returns-in_ok-with_uri-in-SourceByUri-clause-again c =
    lemma.called c.operation-in-SourceByUri.result (view c.in_ok-with_uri-in-SourceByUri.field-0) _ _ c.args.call.now c.operation-in-SourceByUri.ensures.again c.in_ok-with_uri-in-SourceByUri.ensures (lemma.source_by_uri_again _) c.in-SourceByUri.is

pub returns-in_ok-named-in-Log-clause-again : goal.returns-in_ok-named-in-Log-clause-again
returns-in_ok-named-in-Log-clause-again c =
    lemma.called c.operation-in-Log.result (view c.in_ok-named-in-Log.field-0) _ _ c.args.call.now c.operation-in-Log.ensures.again c.in_ok-named-in-Log.ensures (lemma.log_again _) c.in-Log.is

pub returns-in_ok-named-in-Version-clause-again : goal.returns-in_ok-named-in-Version-clause-again
returns-in_ok-named-in-Version-clause-again c =
    lemma.called c.operation-in-Version.result (view c.in_ok-named-in-Version.field-0) _ _ c.args.call.now c.operation-in-Version.ensures.again c.in_ok-named-in-Version.ensures (lemma.version_again _) c.in-Version.is

pub returns-in_ok-named-in-Remove-clause-again : goal.returns-in_ok-named-in-Remove-clause-again
returns-in_ok-named-in-Remove-clause-again c =
    lemma.called c.operation-in-Remove.result (view c.in_ok-named-in-Remove.field-0) _ _ c.args.call.now c.operation-in-Remove.ensures.again c.in_ok-named-in-Remove.ensures (lemma.remove_again _) c.in-Remove.is

pub returns-in_ok-created-in-Create-clause-again : goal.returns-in_ok-created-in-Create-clause-again
returns-in_ok-created-in-Create-clause-again c =
    lemma.called c.operation-in-Create.result (view c.in_ok-created-in-Create.field-0) _ _ c.args.call.now c.operation-in-Create.ensures.again c.in_ok-created-in-Create.ensures.value (lemma.create_again _ _ _ c.in_ok-created-in-Create.ensures.fits) c.in-Create.is

pub returns-in_ok-renamed-in-Rename-clause-again : goal.returns-in_ok-renamed-in-Rename-clause-again
returns-in_ok-renamed-in-Rename-clause-again c =
    lemma.called c.operation-in-Rename.result (view c.in_ok-renamed-in-Rename.field-0) _ _ c.args.call.now c.operation-in-Rename.ensures.again c.in_ok-renamed-in-Rename.ensures (lemma.rename_again _ _) c.in-Rename.is

pub returns-in-Append-clause-again : goal.returns-in-Append-clause-again
returns-in-Append-clause-again c = lemma.called_by_path c.append_of.result _ c.args.call.now c.append_of.ensures.again c.in-Append.is

pub returns-in-AppendRun-clause-again : goal.returns-in-AppendRun-clause-again
returns-in-AppendRun-clause-again c = lemma.called_by_path c.append_run_of.result _ c.args.call.now c.append_run_of.ensures.again c.in-AppendRun.is

pub returns-in-FetchVersion-clause-again : goal.returns-in-FetchVersion-clause-again
returns-in-FetchVersion-clause-again c = lemma.called_by_path c.fetch_version_of.result _ c.args.call.now c.fetch_version_of.ensures.again c.in-FetchVersion.is

pub returns-in-FetchId-clause-again : goal.returns-in-FetchId-clause-again
returns-in-FetchId-clause-again c = lemma.called_by_path c.fetch_id_of.result _ c.args.call.now c.fetch_id_of.ensures.again c.in-FetchId.is
