-- The blocks were made, there is room for them, the size is set, and they are put.
use Rattle.std.proofs.Common.{◌≡◌, ℕ, ◌+◌, ◌-◌, ◌/◌, ◌<◌, max, length, sym, ap, subst, ◌∙◌, arith}
use Rattle.zc_num.specs.Words.{each}
use Rattle.zc_num.proofs.Each.{length_each}
use Rattle.zc_plain.specs.Putting.{touched_count}
use Rattle.zc_heart.specs.declared.file.HeartFile.{HeartFile}
use Rattle.zc_heart.specs.File.{StaysFile}
use Rattle.zc_heart.specs.Input.{input_bytes}
use Rattle.zc_heart.specs.Steps.{HasRoom, with_size, written_bytes}
use Rattle.zc_heart.proofs.StepLaws.{on_err_always, kept_stays, counted_on}
use Rattle.zc_heart.proofs.WriteLaws.{heart_sized, counts_sized, write_done, write_counted}
use Rattle.zc_heart.proofs.writing.write_into.Goals as goal

pub returns-in_err-make_rooms-clause-err : goal.returns-in_err-make_rooms-clause-err
returns-in_err-make_rooms-clause-err c =
    on_err_always c.from_residual-in_err-make_rooms.result (StaysFile c.args.file.now c.make_rooms.new.file) (kept_stays c.args.file.now c.make_rooms.new.file c.make_rooms.ensures.file)

pub put_blocks-requires-clause-heart : goal.put_blocks-requires-clause-heart
put_blocks-requires-clause-heart c =
    let bytes = input_bytes c.args.input.now in
    let roomy = c.make_rooms.new.file in
    let all : c.max.result ≡ max roomy.size (c.args.offset + length bytes) = omega (arith, c.max.ensures, c.len.ensures) in
    let sized_is : c.set_size.new.self ≡ with_size (max roomy.size (c.args.offset + length bytes)) roomy = c.set_size.ensures ∙ ap (λ (size : ℕ). with_size size roomy) all in
    heart_sized c.args.number c.args.offset bytes c.args.file.now roomy c.set_size.new.self c.requires.heart c.make_rooms.ensures.file sized_is

pub put_blocks-requires-clause-within : goal.put_blocks-requires-clause-within
put_blocks-requires-clause-within c =
    let bytes = input_bytes c.args.input.now in
    let roomy = c.make_rooms.new.file in
    let all : c.max.result ≡ max roomy.size (c.args.offset + length bytes) = omega (arith, c.max.ensures, c.len.ensures) in
    let sized_is : c.set_size.new.self ≡ with_size (max roomy.size (c.args.offset + length bytes)) roomy = c.set_size.ensures ∙ ap (λ (size : ℕ). with_size size roomy) all in
    let made_is : c.in_ok-made.made.items ≡ each (touched_count c.args.offset (length (input_bytes c.args.input.now))) (λ k. written_bytes c.args.offset (input_bytes c.args.input.now) c.args.file.now (c.args.offset / 4096 + k)) =
    c.in_ok-made.ensures ∙ ap (λ (count : ℕ). each count (λ k. written_bytes c.args.offset (input_bytes c.args.input.now) c.args.file.now (c.args.offset / 4096 + k)))
    (let count : c.div_ceil.result - c.args.offset / 4096 ≡ touched_count c.args.offset (length (input_bytes c.args.input.now)) = omega (arith, c.div_ceil.ensures, c.len.ensures) in count) in
    let many : length c.in_ok-made.made.items ≡ touched_count c.args.offset (length (input_bytes c.args.input.now)) =
    ap length made_is ∙ length_each (touched_count c.args.offset (length (input_bytes c.args.input.now))) (λ k. written_bytes c.args.offset (input_bytes c.args.input.now) c.args.file.now (c.args.offset / 4096 + k)) in
    let size : c.set_size.new.self.size ≡ max roomy.size (c.args.offset + length bytes) = ap (λ (file : HeartFile). file.size) sized_is in
    omega (arith, many, size)

pub put_blocks-requires-clause-fits : goal.put_blocks-requires-clause-fits
put_blocks-requires-clause-fits c =
    let made_is : c.in_ok-made.made.items ≡ each (touched_count c.args.offset (length (input_bytes c.args.input.now))) (λ k. written_bytes c.args.offset (input_bytes c.args.input.now) c.args.file.now (c.args.offset / 4096 + k)) =
    c.in_ok-made.ensures ∙ ap (λ (count : ℕ). each count (λ k. written_bytes c.args.offset (input_bytes c.args.input.now) c.args.file.now (c.args.offset / 4096 + k)))
    (let count : c.div_ceil.result - c.args.offset / 4096 ≡ touched_count c.args.offset (length (input_bytes c.args.input.now)) = omega (arith, c.div_ceil.ensures, c.len.ensures) in count) in
    let many : length c.in_ok-made.made.items ≡ touched_count c.args.offset (length (input_bytes c.args.input.now)) =
    ap length made_is ∙ length_each (touched_count c.args.offset (length (input_bytes c.args.input.now))) (λ k. written_bytes c.args.offset (input_bytes c.args.input.now) c.args.file.now (c.args.offset / 4096 + k)) in
    omega (arith, many, c.requires.fits)

pub put_blocks-requires-clause-room : goal.put_blocks-requires-clause-room
put_blocks-requires-clause-room c k from until =
    let bytes = input_bytes c.args.input.now in
    let roomy = c.make_rooms.new.file in
    let all : c.max.result ≡ max roomy.size (c.args.offset + length bytes) = omega (arith, c.max.ensures, c.len.ensures) in
    let sized_is : c.set_size.new.self ≡ with_size (max roomy.size (c.args.offset + length bytes)) roomy = c.set_size.ensures ∙ ap (λ (size : ℕ). with_size size roomy) all in
    let made_is : c.in_ok-made.made.items ≡ each (touched_count c.args.offset (length (input_bytes c.args.input.now))) (λ k. written_bytes c.args.offset (input_bytes c.args.input.now) c.args.file.now (c.args.offset / 4096 + k)) =
    c.in_ok-made.ensures ∙ ap (λ (count : ℕ). each count (λ k. written_bytes c.args.offset (input_bytes c.args.input.now) c.args.file.now (c.args.offset / 4096 + k)))
    (let count : c.div_ceil.result - c.args.offset / 4096 ≡ touched_count c.args.offset (length (input_bytes c.args.input.now)) = omega (arith, c.div_ceil.ensures, c.len.ensures) in count) in
    let many : length c.in_ok-made.made.items ≡ touched_count c.args.offset (length (input_bytes c.args.input.now)) =
    ap length made_is ∙ length_each (touched_count c.args.offset (length (input_bytes c.args.input.now))) (λ k. written_bytes c.args.offset (input_bytes c.args.input.now) c.args.file.now (c.args.offset / 4096 + k)) in
    let below : k < c.args.offset / 4096 + (c.div_ceil.result - c.args.offset / 4096) = omega (arith, until, many, c.div_ceil.ensures, c.len.ensures) in
    subst (λ (file : HeartFile). HasRoom k file) (sym sized_is) (c.in_ok-make_rooms.ensures.room k from below)

pub put_blocks-requires-clause-stamp_room : goal.put_blocks-requires-clause-stamp_room
put_blocks-requires-clause-stamp_room c k from until =
    let made_is : c.in_ok-made.made.items ≡ each (touched_count c.args.offset (length (input_bytes c.args.input.now))) (λ k. written_bytes c.args.offset (input_bytes c.args.input.now) c.args.file.now (c.args.offset / 4096 + k)) =
    c.in_ok-made.ensures ∙ ap (λ (count : ℕ). each count (λ k. written_bytes c.args.offset (input_bytes c.args.input.now) c.args.file.now (c.args.offset / 4096 + k)))
    (let count : c.div_ceil.result - c.args.offset / 4096 ≡ touched_count c.args.offset (length (input_bytes c.args.input.now)) = omega (arith, c.div_ceil.ensures, c.len.ensures) in count) in
    let many : length c.in_ok-made.made.items ≡ touched_count c.args.offset (length (input_bytes c.args.input.now)) =
    ap length made_is ∙ length_each (touched_count c.args.offset (length (input_bytes c.args.input.now))) (λ k. written_bytes c.args.offset (input_bytes c.args.input.now) c.args.file.now (c.args.offset / 4096 + k)) in
    c.in_ok-make_rooms.ensures.stamp_room k from (omega (arith, until, many, c.div_ceil.ensures, c.len.ensures))

pub put_blocks-requires-clause-counted : goal.put_blocks-requires-clause-counted
put_blocks-requires-clause-counted c =
    let bytes = input_bytes c.args.input.now in
    let roomy = c.make_rooms.new.file in
    let all : c.max.result ≡ max roomy.size (c.args.offset + length bytes) = omega (arith, c.max.ensures, c.len.ensures) in
    let sized_is : c.set_size.new.self ≡ with_size (max roomy.size (c.args.offset + length bytes)) roomy = c.set_size.ensures ∙ ap (λ (size : ℕ). with_size size roomy) all in
    counted_on c.args.stamps.now c.make_rooms.new.stamps c.args.file.now c.set_size.new.self c.requires.counted
    (counts_sized c.args.number c.args.offset bytes c.args.file.now roomy c.set_size.new.self c.args.stamps.now c.make_rooms.new.stamps c.requires.heart c.make_rooms.ensures.file c.make_rooms.ensures.stamps sized_is)

pub returns-clause-ok : goal.returns-clause-ok
returns-clause-ok c =
    let bytes = input_bytes c.args.input.now in
    let roomy = c.make_rooms.new.file in
    let all : c.max.result ≡ max roomy.size (c.args.offset + length bytes) = omega (arith, c.max.ensures, c.len.ensures) in
    let sized_is : c.set_size.new.self ≡ with_size (max roomy.size (c.args.offset + length bytes)) roomy = c.set_size.ensures ∙ ap (λ (size : ℕ). with_size size roomy) all in
    let made_is : c.in_ok-made.made.items ≡ each (touched_count c.args.offset (length (input_bytes c.args.input.now))) (λ k. written_bytes c.args.offset (input_bytes c.args.input.now) c.args.file.now (c.args.offset / 4096 + k)) =
    c.in_ok-made.ensures ∙ ap (λ (count : ℕ). each count (λ k. written_bytes c.args.offset (input_bytes c.args.input.now) c.args.file.now (c.args.offset / 4096 + k)))
    (let count : c.div_ceil.result - c.args.offset / 4096 ≡ touched_count c.args.offset (length (input_bytes c.args.input.now)) = omega (arith, c.div_ceil.ensures, c.len.ensures) in count) in
    write_done c.args.number c.args.offset bytes c.in_ok-made.made.items c.args.file.now roomy c.set_size.new.self c.put_blocks.new.file c.args.stamps.now c.make_rooms.new.stamps c.put_blocks.new.stamps
    (record { heart = c.requires.heart; some = c.requires.some; made_is = made_is; keeps = c.make_rooms.ensures.file; stays = c.make_rooms.ensures.stamps; sized_is = sized_is; puts = c.put_blocks.ensures })

pub returns-clause-counts : goal.returns-clause-counts
returns-clause-counts c =
    let bytes = input_bytes c.args.input.now in
    let roomy = c.make_rooms.new.file in
    let all : c.max.result ≡ max roomy.size (c.args.offset + length bytes) = omega (arith, c.max.ensures, c.len.ensures) in
    let sized_is : c.set_size.new.self ≡ with_size (max roomy.size (c.args.offset + length bytes)) roomy = c.set_size.ensures ∙ ap (λ (size : ℕ). with_size size roomy) all in
    let made_is : c.in_ok-made.made.items ≡ each (touched_count c.args.offset (length (input_bytes c.args.input.now))) (λ k. written_bytes c.args.offset (input_bytes c.args.input.now) c.args.file.now (c.args.offset / 4096 + k)) =
    c.in_ok-made.ensures ∙ ap (λ (count : ℕ). each count (λ k. written_bytes c.args.offset (input_bytes c.args.input.now) c.args.file.now (c.args.offset / 4096 + k)))
    (let count : c.div_ceil.result - c.args.offset / 4096 ≡ touched_count c.args.offset (length (input_bytes c.args.input.now)) = omega (arith, c.div_ceil.ensures, c.len.ensures) in count) in
    write_counted c.args.number c.args.offset bytes c.in_ok-made.made.items c.args.file.now roomy c.set_size.new.self c.put_blocks.new.file c.args.stamps.now c.make_rooms.new.stamps c.put_blocks.new.stamps
    (record { heart = c.requires.heart; some = c.requires.some; made_is = made_is; keeps = c.make_rooms.ensures.file; stays = c.make_rooms.ensures.stamps; sized_is = sized_is; puts = c.put_blocks.ensures })
