use Rattle.std.proofs.Common.{◌≡◌, ◌∙◌, sym, subst}
use Rattle.std.specs.List.{AllByRecursion}
use Rattle.zc_blkptr.specs.declared.ptr.Ptr.{Ptr}
use Rattle.zc_heart.specs.Opening.{number_of}
use Rattle.zc_heart.proofs.opening.hold.Goals as goal

pub returns-clause-places : goal.returns-clause-places
returns-clause-places c = λ placing all.
    c.in_ok-stamps.ensures.places placing (subst (AllByRecursion (λ (ptr : Ptr). placing 0 (number_of ptr) ≡ ptr)) (sym (c.as_slice.ensures.value ∙ c.in_ok-ptrs.ensures)) all)
