-- What the collections of this crate end as, once a reference to a part of them is given back.
use Rattle.std.specs.Prelude.{ℕ, List, slice_set}
use Rattle.std.specs.Borrow.{Lends, MutBor, Fml, RattleType}
use Rattle.zc_num.specs.contracts.boxed.Boxed.{the_row as boxed_row}
use Rattle.zc_num.specs.contracts.listed.Listed.{the_row as listed_row}

-- the box b ends as the last value after r
abbrev pub LendsValue : (T : RattleType) → MutBor T.Denot → MutBor T.Denot → Fml
LendsValue T b r = Lends (boxed_row T) T b r (λ w. w)

-- the list l ends with the item at `index` set to the last value after r
abbrev pub LendsItem : (T : RattleType) → MutBor (List T.Denot) → ℕ → MutBor T.Denot → Fml
LendsItem T l index r = Lends (listed_row T) T l r (slice_set l.now index)
