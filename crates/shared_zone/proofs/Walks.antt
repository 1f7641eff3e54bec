-- The names that the walks of `past` cite.
pub use Rattle.std.proofs.Common.{ℕ, List, [], ◌∷◌, ◌++◌, refl}
pub use Rattle.std.proofs.raw_atomic.Walks.{proved}
pub use mir.Syntax.{named}
pub use mir.Val.{Val, vunit, vint, vstruct, vnil}
pub use base.Logic.{via, fst∗, emp, id⊢}
pub use base.Fml.{ftrue, flft}
pub use types.Kit.{‵, raw, ◌⊛◌, ◌$◌, ◌∵◌, !, qed, move, keep, drop, use1, split, join, fsplit, fsplit3, fjoin, fjoin3, feq_i, suffices, frame, done}
pub use types.Run.{unit_lit, of_opd, no_more, returns, enter}
pub use types.Part.{agg}
pub use types.ByLocal.{alloc_all, pass_all, free_all, look_at, sets}
pub use denote.Exit.{yes}
pub use denote.RattleType.{owns}
pub use denote.Ref.{MutRef, mut_vals, mut_Tells, ShrRef, shr_vals, shr_Tells}
pub use denote.Shadow.{pure_i}
pub use denote.Signature.{plain}
pub use denote.Plain.{uint_vals, uint_Tells}
pub use denote.Builtin.{u32}
pub use denote.Steps.{nothing, opens, closes}
pub use denote.Triple.Entry.{on_entry}
pub use denote.Triple.Walked.{Stays, walk_of, says, stay_ref, stay_none_ref, stay_none, Goes-ref, Goes-none_ref, Goes-none, ends_at}
