use Rattle.std.proofs.Common.{◌≡◌, ℕ, ◌+◌, drop, map, count_by}
use Rattle.std.specs.List.{AllByRecursion}
use Rattle.zc_blkptr.specs.declared.ptr.Ptr.{Ptr}
use Rattle.zc_plain.specs.Charge.{is_stamp}
use Rattle.zc_heart.specs.Changes.{Where}
use Rattle.zc_heart.specs.Noted.{AreWhere}
use Rattle.zc_heart.specs.Opening.{number_of, stamp_at_ptr}
use Rattle.zc_heart.specs.Stamps.{files_at, IsAllKnown}
use Rattle.zc_heart.proofs.opening.count_all.Given as goal

-- what is counted and what is left are all, and what is known is true
abbrev pub invariant-loop-ptr : goal.invariant-loop-ptr
invariant-loop-ptr l = record {
  files : (stamp : ℕ × ℕ) → files_at l.stamps stamp + count_by (is_stamp stamp) (map stamp_at_ptr (drop l.ptr-index l.ptrs)) ≡ count_by (is_stamp stamp) (map stamp_at_ptr l.ptrs);
  places : (placing : Where) → AllByRecursion (λ (ptr : Ptr). placing 0 (number_of ptr) ≡ ptr) l.ptrs
      → AreWhere placing l.stamps × AllByRecursion (λ (ptr : Ptr). placing 0 (number_of ptr) ≡ ptr) (drop l.ptr-index l.ptrs);
  known : IsAllKnown l.stamps;
}
