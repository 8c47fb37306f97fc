-- The 4,096 bytes of a root's body.
use Rattle.std.specs.Prelude.{◌≡◌, ℕ, ◌^◌, ◌<◌, ◌≤◌, List, ◌++◌, length, replicate, codes}
use Rattle.sha2.specs.Sha256.{sha256}
use Rattle.zc_wire.specs.Numbers.{u32_bytes, u64_bytes, IsBytes}
use Rattle.zc_root.specs.declared.body.Body.{Body}

-- the name of the format, and its version
unfoldable pub title : List ℕ
title = codes "ZCROOT01" ++ u32_bytes 1

-- the title and the fields after it, 96 bytes
unfoldable pub head_bytes : Body → List ℕ
head_bytes body =
    title ++ (u64_bytes body.pool ++ (u64_bytes body.group ++ (u32_bytes body.devices ++ (u32_bytes body.places ++ (u64_bytes body.next_dataset
    ++ (u32_bytes body.first_device ++ (u32_bytes body.first_place ++ (u32_bytes body.chain ++ (u64_bytes body.length ++ body.digest)))))))))

-- the zeros after the head, up to byte 4,063
unfoldable pub padding : List ℕ
padding = replicate 3968 0

-- the bytes of a body: the head, zeros, and the SHA-256 of both
unfoldable pub body_bytes : Body → List ℕ
body_bytes body = (head_bytes body ++ padding) ++ sha256 (head_bytes body ++ padding)

-- each field has the width of its spelling
pub record HasWidths (body : Body) : Type 0 where
  pub pool : body.pool < 2 ^ 64
  pub group : body.group < 2 ^ 64
  pub devices : body.devices < 2 ^ 32
  pub places : body.places < 2 ^ 32
  pub next_dataset : body.next_dataset < 2 ^ 64
  pub first_device : body.first_device < 2 ^ 32
  pub first_place : body.first_place < 2 ^ 32
  pub chain : body.chain < 2 ^ 32
  pub catalogue : body.length < 2 ^ 64
  pub digest : length body.digest ≡ 32
  pub digest_fits : IsBytes body.digest

-- what the body of a root may say; that it fits the disks is not asked
pub record IsBody (body : Body) : Type 0 where
  pub committed : 1 ≤ body.group
  pub numbered : 1 ≤ body.next_dataset
  pub some_place : 1 ≤ body.chain
  pub some_byte : 1 ≤ body.length
  pub widths : HasWidths body
