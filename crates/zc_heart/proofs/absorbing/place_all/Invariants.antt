use Rattle.std.proofs.Common.{◌≡◌, ◌<◌, ℕ, Some, true, is_some}
use Rattle.std.specs.Prelude.{slice_get}
use Rattle.zc_heart.specs.declared.stamps.Stamp.{Stamp}
use Rattle.zc_heart.specs.Changes.{Where}
use Rattle.zc_heart.specs.Meaning.{placed_at}
use Rattle.zc_heart.specs.Noted.{AreWhere}
use Rattle.zc_heart.specs.Stamps.{files_at, pair_of, ptr_at, StaysKnown}
use Rattle.zc_heart.proofs.absorbing.place_all.Given as goal

-- what is known is true so far
abbrev pub invariant-loop-k : goal.invariant-loop-k
invariant-loop-k l = record {
  files : (stamp : ℕ × ℕ) → files_at l.stamps stamp ≡ files_at l.fn.stamps stamp;
  places : (placing : Where) → AreWhere placing l.fn.stamps → placed_at placing l.list ≡ l.placed → AreWhere placing l.stamps;
  known : (j : ℕ) (stamp : Stamp) → j < l.k → slice_get l.list j ≡ Some stamp → 0 < files_at l.fn.stamps (pair_of stamp) → is_some (ptr_at l.stamps (pair_of stamp)) ≡ true;
  stays_known : StaysKnown l.fn.stamps l.stamps;
}
