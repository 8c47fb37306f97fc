-- The 40 bytes of a pointer to a block, and of a hole.
use Rattle.std.specs.Prelude.{◌≡◌, ℕ, ◌^◌, ◌<◌, ◌≤◌, List, ◌++◌, length, replicate}
use Rattle.zc_num.specs.Limits.{IsFixed}
use Rattle.zc_wire.specs.Numbers.{u32_bytes, u64_bytes, IsBytes}
use Rattle.zc_blkptr.specs.declared.ptr.Ptr.{Ptr}
use Rattle.zc_blkptr.specs.declared.ptr.Slot.{Slot}
use Rattle.zc_blkptr.specs.declared.ptr.Slot.TheVariants.{Hole, At}

-- the bytes of a pointer: device, place, logical birth, physical birth, digest
unfoldable pub ptr_bytes : Ptr → List ℕ
ptr_bytes ptr = u32_bytes ptr.device ++ (u32_bytes ptr.place ++ (u64_bytes ptr.logical ++ (u64_bytes ptr.physical ++ ptr.digest)))

-- the bytes of a hole, all zero
unfoldable pub hole_bytes : List ℕ
hole_bytes = replicate 40 0

-- the bytes of a slot
abbrev pub slot_bytes : Slot → List ℕ
slot_bytes Hole = hole_bytes
slot_bytes (At ptr) = ptr_bytes ptr

-- each field has the width of its spelling
pub record HasWidths (ptr : Ptr) : Type 0 where
  pub device : ptr.device < 2 ^ 32
  pub place : ptr.place < 2 ^ 32
  pub logical : ptr.logical < 2 ^ 64
  pub physical : ptr.physical < 2 ^ 64
  pub digest : length ptr.digest ≡ 16
  pub digest_fits : IsBytes ptr.digest

-- a pool of so many devices with so many places each may have the pointer: it names a place of the pool that is neither one of
-- the roots' nor of a log area, and its block was written by some group, no later than the pointer came into its file
pub record IsPtr (devices places : ℕ) (ptr : Ptr) : Type 0 where
  pub on_device : ptr.device < devices
  pub in_places : ptr.place < places
  pub not_fixed : ¬ IsFixed devices places ptr.device ptr.place
  pub written : 1 ≤ ptr.physical
  pub in_order : ptr.physical ≤ ptr.logical
  pub widths : HasWidths ptr

-- a pool of that size may have the slot
abbrev pub IsSlot : ℕ → ℕ → Slot → Type 0
IsSlot devices places Hole = Unit {0}
IsSlot devices places (At ptr) = IsPtr devices places ptr
