-- What a directory ends as, once a reference to one of its values is given back.
use Rattle.std.specs.Prelude.{ℕ, List}
use Rattle.std.specs.Borrow.{Lends, MutBor, Fml, RattleType}
use Rattle.zc_heart.specs.declared.directory.Named.{Named}
use Rattle.zc_heart.specs.contracts.directory.Directory.{the_row}
use Rattle.zc_heart.specs.Changes.{change_by}
use Rattle.zc_heart.specs.Directory.{id_of, with_value}

-- the directory ends with the last value after r as that of the number
abbrev pub LendsValueOf : (V : RattleType) → MutBor (List (Named V.Denot)) → ℕ → MutBor V.Denot → Fml
LendsValueOf V directory id r = Lends (the_row V) V directory r (λ value. change_by id_of id (with_value value) directory.now)
