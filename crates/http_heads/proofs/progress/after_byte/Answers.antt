use Rattle.std.proofs.Common.{subst}
use Rattle.http_heads.specs.Follow.{Follows}
use Rattle.http_heads.specs.declared.progress.HeadProgress.{HeadProgress}
use Rattle.http_heads.proofs.progress.after_byte.Goals as goal

pub returns-in-Blank : goal.returns-in-Blank
returns-in-Blank c = λ text follows. c.after_blank.ensures text (subst (λ (p : HeadProgress). Follows c.args.kind text p) c.in-Blank.is follows)

pub returns-in-BlankEnd : goal.returns-in-BlankEnd
returns-in-BlankEnd c = λ text follows. c.after_blank_end.ensures text (subst (λ (p : HeadProgress). Follows c.args.kind text p) c.in-BlankEnd.is follows)

pub returns-in-Method : goal.returns-in-Method
returns-in-Method c = λ text follows. c.after_method.ensures text (subst (λ (p : HeadProgress). Follows c.args.kind text p) c.in-Method.is follows)

pub returns-in-Reason : goal.returns-in-Reason
returns-in-Reason c = λ text follows. c.after_reason.ensures text (subst (λ (p : HeadProgress). Follows c.args.kind text p) c.in-Reason.is follows)

pub returns-in-Name : goal.returns-in-Name
returns-in-Name c = λ text follows. c.after_name.ensures text (subst (λ (p : HeadProgress). Follows c.args.kind text p) c.in-Name.is follows)

pub returns-in-Value : goal.returns-in-Value
returns-in-Value c = λ text follows. c.after_value.ensures text (subst (λ (p : HeadProgress). Follows c.args.kind text p) c.in-Value.is follows)

pub returns-in-ValueEnd : goal.returns-in-ValueEnd
returns-in-ValueEnd c = λ text follows. c.after_value_end.ensures text (subst (λ (p : HeadProgress). Follows c.args.kind text p) c.in-ValueEnd.is follows)
