-- A file whose size was set: the block in which it is trimmed, and those that go.
use Rattle.std.proofs.Common.{◌≡◌, ◌≢◌, ◌⊎◌, inl, inr, ℕ, ◌+◌, ◌-◌, ◌/◌, ◌<◌, ◌≤◌, ◌==◌, ◌||◌, Bool, true, false, List, [], replicate, Option, Some, None, refl, sym, ap, subst, ◌∙◌, ⊎_elim, arith}
use Rattle.std.specs.Prelude.{if◌then◌else◌}
use Rattle.std.proofs.lemmas.Bool.{cases_Bool, cases_eq, cases_lt, eq-eqb, ne_eqb}
use Rattle.std.proofs.lemmas.Option.{none-some, same_Some}
use Rattle.zc_num.specs.Words.{each}
use Rattle.zc_num.specs.Blocks.{edited}
use Rattle.zc_num.proofs.Each.{each_same}
use Rattle.zc_plain.specs.declared.plain_pool.PlainBlock.{PlainBlock}
use Rattle.zc_plain.specs.declared.plain_pool.PlainBlock.TheVariants.{Hole, Made}
use Rattle.zc_plain.specs.PlainPool.{is_made as is_held}
use Rattle.zc_plain.specs.PlainPool.{blocks_of_size, bytes_of_block}
use Rattle.zc_plain.specs.Truncated.{is_trimmed, kept_in, trimmed_block, truncated_block, truncated}
use Rattle.zc_plain.proofs.TruncatedLaws.{trimmed_lies, made_where_trimmed, kept_where_uncut}
use Rattle.zc_heart.specs.declared.file.HeartFile.{HeartFile}
use Rattle.zc_heart.specs.declared.stamps.Stamps.{Stamps}
use Rattle.zc_heart.specs.Core.{plain_blocks, IsHeartFile}
use Rattle.zc_heart.specs.File.{bare, StaysCounted, Marks, CountsChange, Truncates}
use Rattle.zc_heart.specs.Steps.{held_at, KeepsAll, Sets, IsCut, PutsCut, DropsFrom, trimmed_bytes, with_size}
use Rattle.zc_heart.proofs.HeldLaws.{block_of_heart}
use Rattle.zc_heart.proofs.StepLaws.{or_nothing, keeps_on, kept_blocks, marks_on, marks_as, marks_kept, marks_same, counts_on, counts_stay, counts_kept, stays_same}
use Rattle.zc_heart.proofs.WriteLaws.{sized_heart, sized_marks, sized_counts}

-- ---- the block that is trimmed

-- a file is trimmed in the block of its last byte alone
pub trimmed_there_alone : (old size : ℕ) (blocks : List PlainBlock) (k : ℕ) → k ≢ size / 4096 → is_trimmed old size blocks k ≡ false
trimmed_there_alone old size blocks k apart =
    ⊎_elim
    (λ (is : is_trimmed old size blocks k ≡ true).
    let lies = trimmed_lies old size blocks k is in
    let same : k ≡ size / 4096 = omega (arith, lies.1, lies.2) in
    absurd (apart same))
    (λ (no : is_trimmed old size blocks k ≡ false). no)
    (cases_Bool (is_trimmed old size blocks k))

-- where it isn't trimmed there, it is trimmed nowhere
pub trimmed_nowhere : (old size : ℕ) (blocks : List PlainBlock) (k : ℕ) → is_trimmed old size blocks (size / 4096) ≡ false → is_trimmed old size blocks k ≡ false
trimmed_nowhere old size blocks k uncut =
    ⊎_elim
    (λ (same : k ≡ size / 4096). ap (is_trimmed old size blocks) same ∙ uncut)
    (λ (apart : k ≢ size / 4096). trimmed_there_alone old size blocks k apart)
    (cases_eq k (size / 4096))

-- a block that was made by a truncation tells that the file is trimmed, and has the bytes
pub trimmed_made : (test : Bool) (trimmed : Option (List ℕ)) (bytes others : List ℕ) → trimmed ≡ (if test then Some others else None) → trimmed ≡ Some bytes → (test ≡ true) × (bytes ≡ others)
trimmed_made true trimmed bytes others is some = (refl, same_Some bytes others (sym some ∙ is))
trimmed_made false trimmed bytes others is some = absurd (none-some bytes (sym is ∙ some))

pub trimmed_not_made : (test : Bool) (trimmed : Option (List ℕ)) (others : List ℕ) → trimmed ≡ (if test then Some others else None) → trimmed ≡ None → test ≡ false
trimmed_not_made true trimmed others is none = absurd (none-some others (sym none ∙ is))
trimmed_not_made false trimmed others is none = refl

-- what was made for the file is what is made for one that keeps all
pub trimmed_kept : (number size : ℕ) (trimmed : Option (List ℕ)) (old roomy new : HeartFile) (s : Stamps) → IsCut number size trimmed old roomy s → KeepsAll old roomy → KeepsAll roomy new → IsCut number size trimmed new new s
unfolding trimmed_bytes
trimmed_kept number size trimmed old roomy new s is first second =
    let keeps = keeps_on old roomy new first second in
    let at = size / 4096 in
    let sized : is_trimmed new.size size (plain_blocks new) at ≡ is_trimmed old.size size (plain_blocks old) at =
    ap (λ (n : ℕ). is_trimmed n size (plain_blocks new) at) keeps.size ∙ ap (λ (blocks : List PlainBlock). is_trimmed old.size size blocks at) (kept_blocks old new keeps) in
    let bytes : trimmed_bytes size new at ≡ trimmed_bytes size old at =
    ap (λ (block : PlainBlock). edited (bytes_of_block block) (kept_in at size) (replicate (4096 - kept_in at size) 0)) (keeps.blocks at) in
    record {
      bytes = is.bytes ∙ sym (ap (λ (test : Bool). if test then Some (trimmed_bytes size new at) else None) sized ∙ ap (λ (all : List ℕ). if is_trimmed old.size size (plain_blocks old) at then Some all else None) bytes);
      room = λ some. let room = is.room some in (second.room at room.0, second.mark_room at room.1);
      stamp_room = is.stamp_room;
    }

-- a block is trimmed inside the file
pub trimmed_inside : (old size : ℕ) (blocks : List PlainBlock) → is_trimmed old size blocks (size / 4096) ≡ true → (size / 4096 < blocks_of_size old) × (size / 4096 < blocks_of_size size)
trimmed_inside old size blocks is = let lies = trimmed_lies old size blocks (size / 4096) is in (omega (arith, lies.0), omega (arith, lies.1))

-- the block is put
pub puts_trimmed : (number size : ℕ) (bytes : List ℕ) (old new : HeartFile) (s t : Stamps) → IsHeartFile old → is_trimmed old.size size (plain_blocks old) (size / 4096) ≡ true → bytes ≡ trimmed_bytes size old (size / 4096)
    → IsHeartFile new → Sets (size / 4096) (Made number (size / 4096) bytes) old new → Marks (λ k. k == size / 4096) old new → CountsChange s t old new → PutsCut number size old new s t
unfolding trimmed_bytes trimmed_block
puts_trimmed number size bytes old new s t heart is same heart_after sets marks counts =
    let at = size / 4096 in
    let blocks = plain_blocks old in
    record {
      heart = heart_after;
      size_is = sets.size;
      sized = sets.sized;
      blocks = λ k. ⊎_elim
          (λ (here : k ≡ at).
          ap (λ (n : ℕ). held_at n new) here ∙ sets.here ∙ ap (λ (all : List ℕ). Made number at all) same
          ∙ ap (λ (block : PlainBlock). Made number at (edited (bytes_of_block block) (kept_in at size) (replicate (4096 - kept_in at size) 0))) (sym (block_of_heart old at heart))
          ∙ sym (made_where_trimmed number old.size size blocks at is)
          ∙ ap (truncated_block number old.size size blocks) (sym here))
          (λ (apart : k ≢ at).
          sets.others k apart ∙ sym (block_of_heart old k heart) ∙ sym (kept_where_uncut number old.size size blocks k (trimmed_there_alone old.size size blocks k apart)))
          (cases_eq k at);
      marks = marks_as (λ k. k == at) (is_trimmed old.size size blocks) old new
          (λ k. ⊎_elim
          (λ (here : k ≡ at). eq-eqb k at here ∙ sym (ap (is_trimmed old.size size blocks) here ∙ is))
          (λ (apart : k ≢ at). ne_eqb k at apart ∙ sym (trimmed_there_alone old.size size blocks k apart))
          (cases_eq k at))
          marks;
      counts = counts;
      room = λ k past room held.
          let apart : k ≢ at = λ (here : k ≡ at). absurd (omega (arith, past, here, (trimmed_inside old.size size blocks is).1)) in
          sets.mark_room k apart (room (sym (ap is_held (sets.others k apart)) ∙ held));
    }

-- nothing is trimmed
pub puts_no_trimmed : (number size : ℕ) (old : HeartFile) (s : Stamps) → IsHeartFile old → is_trimmed old.size size (plain_blocks old) (size / 4096) ≡ false → PutsCut number size old old s s
puts_no_trimmed number size old s heart uncut = record {
  heart = heart;
  size_is = refl;
  sized = refl;
  blocks = λ k. sym (block_of_heart old k heart) ∙ sym (kept_where_uncut number old.size size (plain_blocks old) k (trimmed_nowhere old.size size (plain_blocks old) k uncut));
  marks = marks_as (λ k. false) (is_trimmed old.size size (plain_blocks old)) old old (λ k. sym (trimmed_nowhere old.size size (plain_blocks old) k uncut)) (marks_same old);
  counts = counts_stay s s old old (stays_same s) (λ stamp. refl);
  room = λ k past room. room;
}

-- ---- the blocks that go

-- those of them that are below `upto` are holes
pub record DropsUpTo (from upto : ℕ) (old new : HeartFile) (s t : Stamps) : Type 0 where
  pub heart : IsHeartFile new
  pub size : new.size ≡ old.size
  pub sized : new.sized ≡ old.sized
  pub dropped : (k : ℕ) → from ≤ k → k < upto → held_at k new ≡ Hole
  pub others : (k : ℕ) → (k < from) ⊎ (upto ≤ k) → held_at k new ≡ held_at k old
  pub marks : Marks (λ k. false) old new
  pub counts : CountsChange s t old new

pub drops_none : (from : ℕ) (file : HeartFile) (s : Stamps) → IsHeartFile file → DropsUpTo from from file file s s
drops_none from file s heart = record {
  heart = heart;
  size = refl;
  sized = refl;
  dropped = λ k begins ends. absurd (omega (arith, begins, ends));
  others = λ k apart. refl;
  marks = marks_same file;
  counts = counts_stay s s file file (stays_same s) (λ stamp. refl);
}

pub drops_more : (from upto : ℕ) (old mid new : HeartFile) (s t u : Stamps) → from ≤ upto → DropsUpTo from upto old mid s t → IsHeartFile new → Sets upto Hole mid new → Marks (λ k. false) mid new → CountsChange t u mid new
    → DropsUpTo from (upto + 1) old new s u
drops_more from upto old mid new s t u begins before heart sets marks counts = record {
  heart = heart;
  size = sets.size ∙ before.size;
  sized = sets.sized ∙ before.sized;
  dropped = λ k inside below. ⊎_elim
      (λ (here : k ≡ upto). ap (λ (n : ℕ). held_at n new) here ∙ sets.here)
      (λ (apart : k ≢ upto). sets.others k apart ∙ before.dropped k inside (omega (arith, below, apart)))
      (cases_eq k upto);
  others = λ k apart.
      let other : k ≢ upto = λ (same : k ≡ upto). ⊎_elim (λ (less : k < from). absurd (omega (arith, less, same, begins))) (λ (past : upto + 1 ≤ k). absurd (omega (arith, past, same))) apart in
      let further : (k < from) ⊎ (upto ≤ k) = ⊎_elim (λ (less : k < from). inl less) (λ (past : upto + 1 ≤ k). inr (omega (arith, past))) apart in
      sets.others k other ∙ before.others k further;
  marks = marks_as (λ k. false || false) (λ k. false) old new (λ k. refl) (marks_on (λ k. false) (λ k. false) old mid new before.marks marks);
  counts = counts_on s t u old mid new before.counts counts;
}

pub drops_all : (from upto : ℕ) (old new : HeartFile) (s t : Stamps) → IsHeartFile old → blocks_of_size old.size ≤ upto → DropsUpTo from upto old new s t → DropsFrom from old new s t
drops_all from upto old new s t heart ends drops = record {
  heart = drops.heart;
  size = drops.size;
  sized = drops.sized;
  dropped = λ k begins. ⊎_elim
      (λ (below : k < upto). drops.dropped k begins below)
      (λ (past : upto ≤ k). drops.others k (inr past) ∙ heart.ends k (omega (arith, past, ends)))
      (cases_lt k upto);
  others = λ k below. drops.others k (inl below);
  marks = drops.marks;
  counts = drops.counts;
}

-- ---- all of a truncation

-- what is known once there was room, the block that is trimmed was put, those after it went, and the size was set
pub record IsTruncating (number size : ℕ) (old roomy trimmed dropped new : HeartFile) (s t u v : Stamps) : Type 0 where
  pub heart : IsHeartFile old
  pub keeps : KeepsAll old roomy
  pub stays : StaysCounted s t
  pub puts : PutsCut number size roomy trimmed t u
  pub drops : DropsFrom (blocks_of_size size) trimmed dropped u v
  pub new_is : new ≡ with_size size dropped

block_truncated : (number size : ℕ) (old roomy trimmed dropped new : HeartFile) (s t u v : Stamps) → IsTruncating number size old roomy trimmed dropped new s t u v → (k : ℕ) → k < blocks_of_size size
    → held_at k new ≡ truncated_block number old.size size (plain_blocks old) k
block_truncated number size old roomy trimmed dropped new s t u v is k below =
    ap (λ (file : HeartFile). held_at k file) is.new_is ∙ is.drops.others k below ∙ is.puts.blocks k
    ∙ ap (λ (n : ℕ). truncated_block number n size (plain_blocks roomy) k) is.keeps.size
    ∙ ap (λ (blocks : List PlainBlock). truncated_block number old.size size blocks k) (kept_blocks old roomy is.keeps)

bare_truncated : (number size : ℕ) (old roomy trimmed dropped new : HeartFile) (s t u v : Stamps) → IsTruncating number size old roomy trimmed dropped new s t u v → bare new ≡ truncated number size (bare old)
unfolding truncated
bare_truncated number size old roomy trimmed dropped new s t u v is =
    let all : new.size ≡ size = ap (λ (file : HeartFile). file.size) is.new_is in
    ap (λ (n : ℕ). record { id = 0; name = []; size = n; blocks = each (blocks_of_size n) (λ k. held_at k new) }) all
    ∙ ap (λ (blocks : List PlainBlock). record { id = 0; name = []; size = size; blocks = blocks })
    (each_same (blocks_of_size size) (λ k. held_at k new) (truncated_block number old.size size (plain_blocks old)) (λ k below. block_truncated number size old roomy trimmed dropped new s t u v is k below))

pub heart_truncated : (number size : ℕ) (old roomy trimmed dropped new : HeartFile) (s t u v : Stamps) → IsTruncating number size old roomy trimmed dropped new s t u v → IsHeartFile new
heart_truncated number size old roomy trimmed dropped new s t u v is =
    subst (λ (file : HeartFile). IsHeartFile file) (sym is.new_is) (sized_heart size dropped is.drops.heart is.drops.dropped)

pub truncation_done : (number size : ℕ) (old roomy trimmed dropped new : HeartFile) (s t u v : Stamps) → IsTruncating number size old roomy trimmed dropped new s t u v → Truncates number size old new
truncation_done number size old roomy trimmed dropped new s t u v is =
    let trims = is_trimmed roomy.size size (plain_blocks roomy) in
    let none : ℕ → Bool = λ k. false in
    let last : Marks none dropped new = subst (λ (file : HeartFile). Marks none dropped file) (sym is.new_is) (sized_marks size dropped is.drops.heart is.drops.dropped) in
    let first : Marks (λ k. false || trims k) old trimmed = marks_on none trims old roomy trimmed (marks_kept old roomy is.keeps) is.puts.marks in
    let second : Marks (λ k. (false || trims k) || false) old dropped = marks_on (λ k. false || trims k) none old trimmed dropped first is.drops.marks in
    let third : Marks (λ k. ((false || trims k) || false) || false) old new = marks_on (λ k. (false || trims k) || false) none old dropped new second last in
    record {
      file = bare_truncated number size old roomy trimmed dropped new s t u v is;
      marks = marks_as (λ k. ((false || trims k) || false) || false) (is_trimmed old.size size (plain_blocks old)) old new
          (λ k. sym (or_nothing (trims k || false)) ∙ sym (or_nothing (trims k))
          ∙ ap (λ (n : ℕ). is_trimmed n size (plain_blocks roomy) k) is.keeps.size ∙ ap (λ (blocks : List PlainBlock). is_trimmed old.size size blocks k) (kept_blocks old roomy is.keeps))
          third;
    }

pub truncation_counted : (number size : ℕ) (old roomy trimmed dropped new : HeartFile) (s t u v : Stamps) → IsTruncating number size old roomy trimmed dropped new s t u v → CountsChange s v old new
truncation_counted number size old roomy trimmed dropped new s t u v is =
    let last : CountsChange v v dropped new = subst (λ (file : HeartFile). CountsChange v v dropped file) (sym is.new_is) (sized_counts size dropped v is.drops.heart is.drops.dropped) in
    let first = counts_on s t u old roomy trimmed (counts_kept s t old roomy is.stays is.keeps) is.puts.counts in
    counts_on s v v old dropped new (counts_on s u v old trimmed dropped first is.drops.counts) last
