-- The bytes that a write takes.
use Rattle.std.specs.Prelude.{ℕ, List, replicate}
use Rattle.zc_heart.specs.declared.writing.Input.{Input}
use Rattle.zc_heart.specs.declared.writing.Input.TheVariants.{Bytes, Repeated}

-- the bytes that are written
abbrev pub input_bytes : Input → List ℕ
input_bytes (Bytes bytes) = bytes.now
input_bytes (Repeated byte length) = replicate length byte
