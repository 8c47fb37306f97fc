-- Steps of the reading of an image that go on, and checks that hit nothing.
use Rattle.std.proofs.Common.{◌≡◌, ◌∙◌, Bool, true, false, cond, not, Option, Some, None, Result, Ok, Err, refl, sym, ap}
use Rattle.zc_damage.specs.Words.{or_else, when}
use Rattle.zc_damage.specs.declared.damage.Damage.{Damage}
use Rattle.zc_damage.specs.declared.damage.Hit.{Hit}
use Rattle.zc_state.specs.Reading.{◌>>=◌, clear, clear_hit}

-- a read that answered a value
abbrev done : {A E : Type 0} → A → Result A E
done x = Ok x

-- two values of one answer are one
pub ok_is : {A E : Type 0} (x y : A) → done {E = E} x ≡ done y → x ≡ y
ok_is x y e = cc

-- ---- steps

-- the value of a step that answered one
pub bind_ok : {A B : Type 0} (r : Result A Damage) (f : A → Result B Damage) (y : B) → (r >>= f) ≡ Ok y → (x : A) × (r ≡ Ok x) × (f x ≡ Ok y)
bind_ok (Ok x) f y e = (x, refl, e)
bind_ok (Err damage) f y e = absurd cc

-- a step that answers this value goes on with it
pub bind_again : {A B : Type 0} (r : Result A Damage) (f : A → Result B Damage) (x : A) (y : Result B Damage) → r ≡ Ok x → f x ≡ y → (r >>= f) ≡ y
bind_again {A} {B} r f x y is on = ap (λ (s : Result A Damage). s >>= f) is ∙ on

-- a check that has no damage
pub clear_ok : {B : Type 0} (damage : Option Damage) (f : Unit {0} → Result B Damage) (y : B) → (clear damage >>= f) ≡ Ok y → (damage ≡ None) × (f tt ≡ Ok y)
clear_ok None f y e = (refl, e)
clear_ok (Some damage) f y e = absurd cc

-- where it has none, the read goes on
pub clear_again : {B : Type 0} (damage : Option Damage) (f : Unit {0} → Result B Damage) (y : Result B Damage) → damage ≡ None → f tt ≡ y → (clear damage >>= f) ≡ y
clear_again {B} damage f y none on = ap (λ (d : Option Damage). clear d >>= f) none ∙ on

-- a check that has no hit
pub clear_hit_ok : {B : Type 0} (hit : Option Hit) (f : Unit {0} → Result B Damage) (y : B) → (clear_hit hit >>= f) ≡ Ok y → (hit ≡ None) × (f tt ≡ Ok y)
clear_hit_ok None f y e = (refl, e)
clear_hit_ok (Some hit) f y e = absurd cc

-- where it has none, the read goes on
pub clear_hit_again : {B : Type 0} (hit : Option Hit) (f : Unit {0} → Result B Damage) (y : Result B Damage) → hit ≡ None → f tt ≡ y → (clear_hit hit >>= f) ≡ y
clear_hit_again {B} hit f y none on = ap (λ (h : Option Hit). clear_hit h >>= f) none ∙ on

-- the value after a test that has to hold
pub if_ok : {A E : Type 0} (test : Bool) (r : Result A E) (bad : E) (y : A) → cond test r (Err bad) ≡ Ok y → (test ≡ true) × (r ≡ Ok y)
if_ok true r bad y e = (refl, e)
if_ok false r bad y e = absurd cc

-- ---- checks

-- where a choice is None, both are
pub none_of_choice : {Y : Type 0} (one other : Option Y) → or_else one other ≡ None → (one ≡ None) × (other ≡ None)
none_of_choice None other none = (refl, none)
none_of_choice (Some y) other none = absurd cc

-- where both are None, the choice is
pub no_choice : {Y : Type 0} (one other : Option Y) → one ≡ None → other ≡ None → or_else one other ≡ None
no_choice {Y} one other first second = ap (λ (o : Option Y). or_else o other) first ∙ second

-- an item that isn't there has a test that fails
pub when_none : {Y : Type 0} (test : Bool) (y : Y) → when test y ≡ None → test ≡ false
when_none true y e = absurd cc
when_none false y e = refl

-- and where the test fails it isn't there
pub when_not : {Y : Type 0} (test : Bool) (y : Y) → test ≡ false → when test y ≡ None
when_not {Y} test y fails = ap (λ (t : Bool). when t y) fails

-- what isn't false is true
pub not_false : (test : Bool) → not test ≡ false → test ≡ true
not_false true e = refl
not_false false e = sym e
