-- The digest of a block.
use Rattle.std.specs.Prelude.{ℕ, List, take}
use Rattle.sha2.specs.Sha256.{sha256}

-- the first 16 bytes of the SHA-256 of these bytes
abbrev pub digest_bytes : List ℕ → List ℕ
digest_bytes bytes = take 16 (sha256 bytes)
