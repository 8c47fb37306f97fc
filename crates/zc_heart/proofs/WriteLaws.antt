-- A file once its size was set, and once the blocks that were made for a write are put into it.
use Rattle.std.proofs.Common.{◌≡◌, ◌≢◌, ◌⊎◌, inl, inr, ℕ, ◌+◌, ◌-◌, ◌/◌, ◌<◌, ◌≤◌, ◌==◌, ◌||◌, max, true, false, List, [], length, get_or, refl, sym, ap, subst, ◌∙◌, ⊎_elim, arith}
use Rattle.std.specs.Prelude.{nat_le, nat_lt, not}
use Rattle.std.proofs.lemmas.Bool.{cases_eq, cases_lt, cases_order, eq-eqb, ne_eqb, eqb-true, or_parts, or_right, and_from, and_left, and_right, le-leb, lt-leb, lt-ltb, le-ltb, not-false}
use Rattle.zc_num.specs.Words.{each}
use Rattle.zc_num.specs.Blocks.{edited}
use Rattle.zc_num.proofs.Each.{length_each, item_of_each, each_same}
use Rattle.zc_plain.specs.declared.plain_pool.PlainBlock.{PlainBlock}
use Rattle.zc_plain.specs.declared.plain_pool.PlainBlock.TheVariants.{Hole, Made}
use Rattle.zc_plain.specs.PlainPool.{blocks_of_size, bytes_of_block, block_at, made_count}
use Rattle.zc_plain.specs.Putting.{touched_count}
use Rattle.zc_plain.specs.Written.{touches, start_in, part_in, made_block, written_block, written}
use Rattle.zc_plain.proofs.Together.{touched, untouched_before, untouched_after}
use Rattle.zc_heart.specs.declared.file.HeartFile.{HeartFile}
use Rattle.zc_heart.specs.declared.stamps.Stamps.{Stamps}
use Rattle.zc_heart.specs.Core.{plain_blocks, is_made, IsHeartFile}
use Rattle.zc_heart.specs.File.{bare, StaysCounted, Marks, CountsChange, Writes}
use Rattle.zc_heart.specs.Steps.{held_at, KeepsAll, Sets, PutsAll, is_within, written_bytes, with_size}
use Rattle.zc_heart.proofs.HeldLaws.{Weighs, block_of_heart, measure_after, stamped_in, stamped_by, stamps_weigh, pointer_of, pointers_weigh}
use Rattle.zc_heart.proofs.StepLaws.{or_nothing, kept_heart, marks_on, marks_as, marks_kept, marks_same, counts_on, counts_stay, counts_kept, stays_same}

-- ---- a size that is set

-- where all items past both ends weigh nothing, both lists weigh the same
measured_sized : (measure : List PlainBlock → ℕ) (weight : PlainBlock → ℕ) → Weighs measure weight → (f : ℕ → PlainBlock) (m n : ℕ) → weight Hole ≡ 0 → ((k : ℕ) → m ≤ k → f k ≡ Hole) → ((k : ℕ) → n ≤ k → f k ≡ Hole)
    → measure (each n f) ≡ measure (each m f)
measured_sized measure weight weighs f m n weightless past_m past_n =
    ⊎_elim
    (λ (shorter : n < m). sym (measure_after measure weight weighs f n m (omega (arith, shorter)) (λ k far. ap weight (past_n k far) ∙ weightless)))
    (λ (longer : m ≤ n). measure_after measure weight weighs f m n longer (λ k far. ap weight (past_m k far) ∙ weightless))
    (cases_lt n m)

-- no block stands after the size
abbrev pub IsPast : ℕ → HeartFile → Type 0
IsPast size file = (k : ℕ) → blocks_of_size size ≤ k → held_at k file ≡ Hole

pub sized_heart : (size : ℕ) (file : HeartFile) → IsHeartFile file → IsPast size file → IsHeartFile (with_size size file)
sized_heart size file heart past = record {
  ends = past;
  pointers = heart.pointers ∙ sym (measured_sized made_count pointer_of pointers_weigh (λ k. held_at k file) (blocks_of_size file.size) (blocks_of_size size) refl heart.ends past);
}

pub sized_marks : (size : ℕ) (file : HeartFile) → IsHeartFile file → IsPast size file → Marks (λ k. false) file (with_size size file)
sized_marks size file heart past = record {
  kept = λ k untouched. (untouched, block_of_heart (with_size size file) k (sized_heart size file heart past) ∙ sym (block_of_heart file k heart));
  made = λ k. or_nothing (is_made k file);
  sized = λ no.
      let parts = or_parts file.sized (not (size == file.size)) no in
      (parts.0, eqb-true size file.size (not-false (size == file.size) parts.1));
}

pub sized_counts : (size : ℕ) (file : HeartFile) (s : Stamps) → IsHeartFile file → IsPast size file → CountsChange s s file (with_size size file)
sized_counts size file s heart past =
    counts_stay s s file (with_size size file) (stays_same s)
    (λ stamp. measured_sized (stamped_in stamp) (stamped_by stamp) (stamps_weigh stamp) (λ k. held_at k file) (blocks_of_size file.size) (blocks_of_size size) refl heart.ends past)

-- ---- blocks that are put one after another

-- one more number in front of those that are within
within_more : (from end k : ℕ) → from < end → (is_within (from + 1) end k || (k == from)) ≡ is_within from end k
within_more from end k some =
    ⊎_elim
    (λ (same : k ≡ from).
    or_right (is_within (from + 1) end k) (k == from) (eq-eqb k from same)
    ∙ sym (and_from (nat_le from k) (nat_lt k end) (le-leb from k (omega (arith, same))) (lt-ltb k end (omega (arith, same, some)))))
    (λ (apart : (k < from) ⊎ (from < k)).
    ⊎_elim
    (λ (before : k < from).
    rw (lt-leb from k before, lt-leb (from + 1) k (omega (arith, before)), ne_eqb k from (λ (same : k ≡ from). absurd (omega (arith, same, before)))) refl)
    (λ (behind : from < k).
    rw (le-leb from k (omega (arith, behind)), le-leb (from + 1) k (omega (arith, behind)), ne_eqb k from (λ (same : k ≡ from). absurd (omega (arith, same, behind)))) (sym (or_nothing (nat_lt k end))))
    apart)
    (cases_order k from)

-- no number is within none
within_none : (end k : ℕ) → false ≡ is_within end end k
within_none end k =
    ⊎_elim
    (λ (before : k < end). sym (and_left (nat_le end k) (nat_lt k end) (lt-leb end k before)))
    (λ (behind : end ≤ k). sym (and_right (nat_le end k) (nat_lt k end) (le-ltb k end behind)))
    (cases_lt k end)

-- at first none is put
pub puts_none : (number first : ℕ) (made : List (List ℕ)) (file : HeartFile) (s : Stamps) → IsHeartFile file → PutsAll number first made (first + length made) file file s s
puts_none number first made file s heart = record {
  heart = heart;
  size = refl;
  sized = refl;
  put = λ k from until. absurd (omega (arith, from, until));
  others = λ k apart. refl;
  marks = marks_as (λ k. false) (is_within (first + length made) (first + length made)) file file (within_none (first + length made)) (marks_same file);
  counts = counts_stay s s file file (stays_same s) (λ stamp. refl);
}

-- one more, in front of those that were put
pub puts_more : (number first : ℕ) (made : List (List ℕ)) (from : ℕ) (old mid new : HeartFile) (s t u : Stamps) (bytes : List ℕ) → PutsAll number first made (from + 1) old mid s t → first ≤ from → from < first + length made
    → bytes ≡ get_or made (from - first) [] → IsHeartFile new → Sets from (Made number from bytes) mid new → Marks (λ k. k == from) mid new → CountsChange t u mid new → PutsAll number first made from old new s u
puts_more number first made from old mid new s t u bytes before begins ends is heart sets marks counts = record {
  heart = heart;
  size = sets.size ∙ before.size;
  sized = sets.sized ∙ before.sized;
  put = λ k behind until.
      ⊎_elim
      (λ (same : k ≡ from).
      ap (λ (n : ℕ). held_at n new) same ∙ sets.here ∙ ap (λ (all : List ℕ). Made number from all) is
      ∙ ap (λ (n : ℕ). Made number n (get_or made (n - first) [])) (sym same))
      (λ (apart : k ≢ from). sets.others k apart ∙ before.put k (omega (arith, behind, apart)) until)
      (cases_eq k from);
  others = λ k apart.
      let other : k ≢ from = λ (same : k ≡ from). ⊎_elim (λ (less : k < from). absurd (omega (arith, less, same))) (λ (past : first + length made ≤ k). absurd (omega (arith, past, same, ends))) apart in
      let further : (k < from + 1) ⊎ (first + length made ≤ k) = ⊎_elim (λ (less : k < from). inl (omega (arith, less))) (λ (past : first + length made ≤ k). inr past) apart in
      sets.others k other ∙ before.others k further;
  marks = marks_as (λ k. is_within (from + 1) (first + length made) k || (k == from)) (is_within from (first + length made)) old new (λ k. within_more from (first + length made) k ends)
      (marks_on (is_within (from + 1) (first + length made)) (λ k. k == from) old mid new before.marks marks);
  counts = counts_on s t u old mid new before.counts counts;
}

-- ---- all of a write

-- the numbers of the blocks that the bytes touch
touched_within : (offset len k : ℕ) → 0 < len → is_within (offset / 4096) (offset / 4096 + touched_count offset len) k ≡ touches offset len k
touched_within offset len k some =
    let first = offset / 4096 in
    let end = first + touched_count offset len in
    let ends : end ≡ blocks_of_size (offset + len) = omega arith in
    ⊎_elim
    (λ (before : k < first). and_left (nat_le first k) (nat_lt k end) (lt-leb first k before) ∙ sym (untouched_before offset len k before))
    (λ (from : first ≤ k).
    ⊎_elim
    (λ (until : k < end).
    and_from (nat_le first k) (nat_lt k end) (le-leb first k from) (lt-ltb k end until) ∙ sym (touched offset len k some from (omega (arith, until, ends))))
    (λ (behind : end ≤ k).
    and_right (nat_le first k) (nat_lt k end) (le-ltb k end behind) ∙ sym (untouched_after offset len k (omega (arith, behind, ends))))
    (cases_lt k end))
    (cases_lt k first)

-- what is known once the blocks were made, there was room for them, the size was set and they were put
pub record IsWriting (number offset : ℕ) (bytes : List ℕ) (made : List (List ℕ)) (old roomy sized new : HeartFile) (s t u : Stamps) : Type 0 where
  pub heart : IsHeartFile old
  pub some : 0 < length bytes
  pub made_is : made ≡ each (touched_count offset (length bytes)) (λ k. written_bytes offset bytes old (offset / 4096 + k))
  pub keeps : KeepsAll old roomy
  pub stays : StaysCounted s t
  pub sized_is : sized ≡ with_size (max roomy.size (offset + length bytes)) roomy
  pub puts : PutsAll number (offset / 4096) made (offset / 4096) sized new t u

-- past the new size there is no block
pub past_grown : (size end : ℕ) (file : HeartFile) → IsHeartFile file → size ≡ max file.size end → IsPast size file
past_grown size end file heart is k past = heart.ends k (omega (arith, past, is))

-- a block that the bytes touch is made anew, and every other stays
made_where_touched : (number offset : ℕ) (bytes : List ℕ) (blocks : List PlainBlock) (k : ℕ) → touches offset (length bytes) k ≡ true → written_block number offset bytes blocks k ≡ made_block number offset bytes blocks k
unfolding written_block
made_where_touched number offset bytes blocks k is = rw is refl

kept_where_untouched : (number offset : ℕ) (bytes : List ℕ) (blocks : List PlainBlock) (k : ℕ) → touches offset (length bytes) k ≡ false → written_block number offset bytes blocks k ≡ block_at k blocks
unfolding written_block
kept_where_untouched number offset bytes blocks k is = rw is refl

-- each block of the file
block_written : (number offset : ℕ) (bytes : List ℕ) (made : List (List ℕ)) (old roomy sized new : HeartFile) (s t u : Stamps) → IsWriting number offset bytes made old roomy sized new s t u → (k : ℕ)
    → held_at k new ≡ written_block number offset bytes (plain_blocks old) k
unfolding made_block written_bytes
block_written number offset bytes made old roomy sized new s t u is k =
    let first = offset / 4096 in
    let blocks = plain_blocks old in
    let count = touched_count offset (length bytes) in
    let many : length made ≡ count = ap length is.made_is ∙ length_each count (λ j. written_bytes offset bytes old (first + j)) in
    let before : block_at k blocks ≡ held_at k old = block_of_heart old k is.heart in
    let stayed : held_at k sized ≡ held_at k old = ap (λ (file : HeartFile). held_at k file) is.sized_is ∙ is.keeps.blocks k in
    let untouched : touches offset (length bytes) k ≡ false → (k < first) ⊎ (first + length made ≤ k) → held_at k new ≡ written_block number offset bytes blocks k =
    λ no apart. is.puts.others k apart ∙ stayed ∙ sym before ∙ sym (kept_where_untouched number offset bytes blocks k no) in
    ⊎_elim
    (λ (less : k < first). untouched (untouched_before offset (length bytes) k less) (inl less))
    (λ (from : first ≤ k).
    ⊎_elim
    (λ (until : k < first + length made).
    let place : first + (k - first) ≡ k = omega (arith, from) in
    let item : get_or made (k - first) [] ≡ written_bytes offset bytes old k =
    ap (λ (all : List (List ℕ)). get_or all (k - first) []) is.made_is
    ∙ item_of_each count (λ j. written_bytes offset bytes old (first + j)) (k - first) [] (omega (arith, from, until, many)) ∙ ap (written_bytes offset bytes old) place in
    is.puts.put k from until ∙ ap (λ (all : List ℕ). Made number k all) item
    ∙ ap (λ (block : PlainBlock). Made number k (edited (bytes_of_block block) (start_in k offset) (part_in k offset bytes))) (sym before)
    ∙ sym (made_where_touched number offset bytes blocks k (touched offset (length bytes) k is.some from (omega (arith, until, many)))))
    (λ (behind : first + length made ≤ k). untouched (untouched_after offset (length bytes) k (omega (arith, behind, many))) (inr behind))
    (cases_lt k (first + length made)))
    (cases_lt k first)

bare_written : (number offset : ℕ) (bytes : List ℕ) (made : List (List ℕ)) (old roomy sized new : HeartFile) (s t u : Stamps) → IsWriting number offset bytes made old roomy sized new s t u
    → bare new ≡ written number offset bytes (bare old)
unfolding written
bare_written number offset bytes made old roomy sized new s t u is =
    let all = max old.size (offset + length bytes) in
    let size : new.size ≡ all = is.puts.size ∙ ap (λ (file : HeartFile). file.size) is.sized_is ∙ ap (λ (n : ℕ). max n (offset + length bytes)) is.keeps.size in
    ap (λ (n : ℕ). record { id = 0; name = []; size = n; blocks = each (blocks_of_size n) (λ k. held_at k new) }) size
    ∙ ap (λ (blocks : List PlainBlock). record { id = 0; name = []; size = all; blocks = blocks })
    (each_same (blocks_of_size all) (λ k. held_at k new) (written_block number offset bytes (plain_blocks old)) (λ k below. block_written number offset bytes made old roomy sized new s t u is k))

-- the file with the size is one of a heart
pub heart_sized : (number offset : ℕ) (bytes : List ℕ) (old roomy sized : HeartFile) → IsHeartFile old → KeepsAll old roomy → sized ≡ with_size (max roomy.size (offset + length bytes)) roomy → IsHeartFile sized
heart_sized number offset bytes old roomy sized heart keeps is =
    let size = max roomy.size (offset + length bytes) in
    let heart_roomy = kept_heart old roomy heart keeps in
    subst (λ (file : HeartFile). IsHeartFile file) (sym is) (sized_heart size roomy heart_roomy (past_grown size (offset + length bytes) roomy heart_roomy refl))

-- what the write does up to the putting
pub counts_sized : (number offset : ℕ) (bytes : List ℕ) (old roomy sized : HeartFile) (s t : Stamps) → IsHeartFile old → KeepsAll old roomy → StaysCounted s t → sized ≡ with_size (max roomy.size (offset + length bytes)) roomy → CountsChange s t old sized
counts_sized number offset bytes old roomy sized s t heart keeps stays is =
    let size = max roomy.size (offset + length bytes) in
    let heart_roomy = kept_heart old roomy heart keeps in
    subst (λ (file : HeartFile). CountsChange s t old file) (sym is)
    (counts_on s t t old roomy (with_size size roomy) (counts_kept s t old roomy stays keeps) (sized_counts size roomy t heart_roomy (past_grown size (offset + length bytes) roomy heart_roomy refl)))

marks_sized : (offset : ℕ) (bytes : List ℕ) (old roomy sized : HeartFile) → IsHeartFile old → KeepsAll old roomy → sized ≡ with_size (max roomy.size (offset + length bytes)) roomy → Marks (λ k. false) old sized
marks_sized offset bytes old roomy sized heart keeps is =
    let size = max roomy.size (offset + length bytes) in
    let heart_roomy = kept_heart old roomy heart keeps in
    subst (λ (file : HeartFile). Marks (λ k. false) old file) (sym is)
    (marks_on (λ k. false) (λ k. false) old roomy (with_size size roomy) (marks_kept old roomy keeps) (sized_marks size roomy heart_roomy (past_grown size (offset + length bytes) roomy heart_roomy refl)))

-- the file is the written one
pub write_done : (number offset : ℕ) (bytes : List ℕ) (made : List (List ℕ)) (old roomy sized new : HeartFile) (s t u : Stamps) → IsWriting number offset bytes made old roomy sized new s t u → Writes number offset bytes old new
write_done number offset bytes made old roomy sized new s t u is =
    let first = offset / 4096 in
    let many : length made ≡ touched_count offset (length bytes) = ap length is.made_is ∙ length_each (touched_count offset (length bytes)) (λ j. written_bytes offset bytes old (first + j)) in
    record {
      file = bare_written number offset bytes made old roomy sized new s t u is;
      marks = marks_as (λ k. false || is_within first (first + length made) k) (touches offset (length bytes)) old new
          (λ k. ap (λ (n : ℕ). is_within first (first + n) k) many ∙ touched_within offset (length bytes) k is.some)
          (marks_on (λ k. false) (is_within first (first + length made)) old sized new (marks_sized offset bytes old roomy sized is.heart is.keeps is.sized_is) is.puts.marks);
    }

pub write_counted : (number offset : ℕ) (bytes : List ℕ) (made : List (List ℕ)) (old roomy sized new : HeartFile) (s t u : Stamps) → IsWriting number offset bytes made old roomy sized new s t u → CountsChange s u old new
write_counted number offset bytes made old roomy sized new s t u is =
    counts_on s t u old sized new (counts_sized number offset bytes old roomy sized s t is.heart is.keeps is.stays is.sized_is) is.puts.counts
