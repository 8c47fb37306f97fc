-- A run more of bytes was read, until all were.
use Rattle.std.proofs.Common.{◌≡◌, ℕ, ◌+◌, ◌-◌, ◌%◌, ◌<◌, ◌≤◌, min, length, sym, ap, ◌∙◌, arith}
use Rattle.zc_num.specs.Words.{each}
use Rattle.zc_num.proofs.Each.{length_each}
use Rattle.zc_plain.specs.PlainPool.{byte_of}
use Rattle.zc_plain.proofs.Bytes.{bytes_from_each}
use Rattle.zc_heart.specs.File.{bare}
use Rattle.zc_heart.proofs.ReadLaws.{read_none, read_again, read_more}
use Rattle.zc_heart.proofs.reading.bytes_from.Goals as goal

pub loop-bytes-init : goal.loop-bytes-init
loop-bytes-init c =
    let none = c.in_ok-bytes.ensures.items in
    record {
      read = read_none c.in_ok-bytes.bytes.items (λ i. byte_of (bare c.args.file.now) (c.args.offset + i)) none;
      fits = omega (arith, ap length none);
    }

pub loop-bytes-preserved : goal.loop-bytes-preserved
loop-bytes-preserved c =
    let file = c.args.file.now in
    let offset = c.args.offset in
    let before = c.loop-bytes.bytes.items in
    let behind = c.push_part.new.bytes.items in
    let n = c.len-in-loop-bytes.result in
    let part = c.min-part.result in
    let f : ℕ → ℕ = λ i. byte_of (bare file) (offset + i) in
    let long : length before ≡ n = omega (arith, c.len-in-loop-bytes.ensures, c.loop-bytes.bytes.ok.0) in
    let again : c.len-in-loop-bytes-2.result ≡ n = omega (arith, c.len-in-loop-bytes-2.ensures, c.len-in-loop-bytes.ensures) in
    let fewer : n < c.min-count.result = omega (arith, c.loop-bytes-test.true, c.len.ensures, c.len-in-loop-bytes.ensures) in
    let within : offset + n + part ≤ file.size = omega (arith, c.min-part.ensures, c.min-count.ensures, c.saturating_sub.ensures, fewer, again) in
    let inside : (offset + n) % 4096 + part ≤ 4096 = omega (arith, c.min-part.ensures) in
    let so_far : before ≡ each n f = c.loop-bytes.invariant.read ∙ ap (λ (k : ℕ). each k f) long in
    let read : behind ≡ each (n + part) f = read_more file offset n part before behind c.in_ok-push_part.ensures.whole inside within so_far c.in_ok-push_part.ensures.pushed in
    let more : length behind ≡ n + part = ap length read ∙ length_each (n + part) f in
    record {
      read = read_again behind (n + part) f read;
      fits = omega (arith, more, c.min-part.ensures, fewer, again);
    }

pub returns : goal.returns
returns c =
    let file = c.args.file.now in
    let items = c.loop-bytes.bytes.items in
    let f : ℕ → ℕ = λ i. byte_of (bare file) (c.args.offset + i) in
    let count : length items ≡ min c.args.length (file.size - c.args.offset) =
    omega (arith, c.loop-bytes.invariant.fits, c.loop-bytes-test.false, c.len.ensures, c.loop-bytes.bytes.ok.0, c.min-count.ensures, c.saturating_sub.ensures) in
    c.from_vec.ensures ∙ c.loop-bytes.invariant.read ∙ ap (λ (n : ℕ). each n f) count ∙ sym (bytes_from_each c.args.offset c.args.length (bare file))
