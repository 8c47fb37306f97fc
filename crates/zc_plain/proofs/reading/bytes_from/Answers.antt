-- All bytes that the read gives were pushed.
use Rattle.std.proofs.Common.{◌≡◌, ℕ, ◌+◌, ◌-◌, min, sym, ap, ◌∙◌, arith}
use Rattle.zc_num.specs.Words.{each}
use Rattle.zc_plain.specs.PlainPool.{byte_of}
use Rattle.zc_plain.proofs.Bytes.{bytes_from_each}
use Rattle.zc_plain.proofs.reading.bytes_from.Goals as goal

pub returns : goal.returns
returns c =
    let count : c.loop-k.k ≡ min c.args.length (c.args.file.now.size - c.args.offset) = omega arith in
    c.from_vec.ensures ∙ c.loop-k.invariant ∙ ap (λ (n : ℕ). each n (λ i. byte_of c.args.file.now (c.args.offset + i))) count
    ∙ sym (bytes_from_each c.args.offset c.args.length c.args.file.now)
