-- A pointer as one field of a part that is read from the front of bytes.
use Rattle.std.specs.Prelude.{ℕ, Bool, not, ◌&&◌, nat_lt, nat_le, List, take, drop, Ok}
use Rattle.zc_num.specs.Limits.{is_fixed}
use Rattle.zc_wire.specs.Numbers.{u32_of, u64_of}
use Rattle.zc_wire.specs.Fields.{Read, ◌>>=◌, bytes_field, rule}
use Rattle.zc_blkptr.specs.declared.ptr.Ptr.{Ptr}

-- the pointer whose fields stand in 40 bytes, each after the one before, whether or not a pool has it
unfoldable pub ptr_in : List ℕ → Ptr
ptr_in bytes = record {
  device = u32_of bytes;
  place = u32_of (drop 4 bytes);
  logical = u64_of (drop 8 bytes);
  physical = u64_of (drop 16 bytes);
  digest = take 16 (drop 24 bytes);
}

-- a pool of so many devices with so many places each may have the pointer, as a test
abbrev pub is_ptr : ℕ → ℕ → Ptr → Bool
is_ptr devices places ptr =
    nat_lt ptr.device devices && (nat_lt ptr.place places && (not (is_fixed devices places ptr.device ptr.place)
    && (nat_le 1 ptr.physical && nat_le ptr.physical ptr.logical)))

-- a pointer of such a pool, which is no hole; all its bytes are one field
unfoldable pub ptr_field : ℕ → ℕ → List ℕ → Read Ptr
ptr_field devices places bytes = do
  whole ← bytes_field 40 bytes
  _ ← rule (is_ptr devices places (ptr_in whole.0)) bytes
  Ok (ptr_in whole.0, whole.1)
