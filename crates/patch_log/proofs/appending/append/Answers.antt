use Rattle.patch_log.proofs.appending.append.Goals as goal

pub returns : goal.returns
returns g c = c.append_made.ensures c.args.run c.args.by c.of-made.ensures
