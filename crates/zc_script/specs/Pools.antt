-- The pools of a run, as lines name them.
use Rattle.std.specs.Prelude.{ℕ, ◌^◌, ◌==◌, ◌&&◌, ◌||◌, nat_le, nat_lt, Bool, false, List, [], ◌∷◌, length, position, Option, Some, None, option_and_then, if◌then◌else◌}
use Rattle.std.specs.List.{list_all}
use Rattle.std.specs.Str.{bytes_eq}
use Rattle.zc_command.specs.Names.{is_lower, is_digit}

-- the value, where the test passed
abbrev pub only_if : {A : Type 0} → Bool → A → Option A
only_if test value = if test then Some value else None

-- what may stand in a pool's name after its first byte
abbrev pub is_pool_byte : ℕ → Bool
is_pool_byte byte = is_lower byte || (is_digit byte || byte == 95)

-- 1 to 32 bytes, a lower-case letter first, then lower-case letters, digits or `_`
abbrev pub is_pool_name : List ℕ → Bool
is_pool_name [] = false
is_pool_name (byte ∷ bytes) = is_lower byte && (nat_le (length bytes) 31 && list_all is_pool_byte bytes)

-- the index of the first pool of this name, where the name is a pool's; indexes have 32 bits
unfoldable pub pool_at : List (List ℕ) → List ℕ → Option ℕ
pool_at pools name =
    if is_pool_name name then option_and_then (λ at. only_if (nat_lt at (2 ^ 32)) at) (position (λ pool. bytes_eq pool name) pools) else None
