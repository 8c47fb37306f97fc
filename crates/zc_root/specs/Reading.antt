-- What the fields of a body say.
use Rattle.std.specs.Prelude.{List, ℕ, take, drop}
use Rattle.zc_wire.specs.Numbers.{u32_of, u64_of}
use Rattle.zc_root.specs.declared.body.Body.{Body}

-- what the fields of these bytes say, each at its place after the title, whether the bytes are those of a body or not
unfoldable pub fields_in : List ℕ → Body
fields_in bytes = record {
  pool = u64_of (drop 12 bytes);
  group = u64_of (drop 20 bytes);
  devices = u32_of (drop 28 bytes);
  places = u32_of (drop 32 bytes);
  next_dataset = u64_of (drop 36 bytes);
  first_device = u32_of (drop 44 bytes);
  first_place = u32_of (drop 48 bytes);
  chain = u32_of (drop 52 bytes);
  length = u64_of (drop 56 bytes);
  digest = take 32 (drop 64 bytes);
}
