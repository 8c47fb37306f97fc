-- The pointers of a dataset, once bytes were written into a file of it, and once a file of it was trimmed.
use Rattle.std.proofs.Common.{◌≡◌, ℕ, zero, suc, ◌+◌, ◌-◌, ◌<◌, ◌≤◌, ◌&&◌, nat_lt, max, min, Bool, true, false, cond, List, [], ◌∷◌, take, length, Option, Some, Ok, refl, sym, ap, subst, ◌∙◌, ⊎_elim, arith}
use Rattle.std.specs.Prelude.{slice_get, sum_by, count_by, remove, replicate}
use Rattle.std.specs.Option.{option_map}
use Rattle.std.proofs.lemmas.Bool.{cases_lt, cases_Bool, and_parts, eqb-false}
use Rattle.std.proofs.lemmas.List.{get_or_past}
use Rattle.std.proofs.lemmas.List.Sums.{sum_by-cons, sum_by_push, sum_by-take-le}
use Rattle.zc_num.specs.Words.{each, change_at}
use Rattle.zc_num.proofs.Changes.{get_of_change_at}
use Rattle.zc_num.proofs.Each.{each_none, each_more, each_from_items, take_each}
use Rattle.zc_command.specs.declared.command.Command.{Command}
use Rattle.zc_command.specs.declared.command.Command.TheVariants.{Mkds, Rmds, Mount, Create, Remove, Write, Fill, Truncate, Read, Stat, Commit}
use Rattle.zc_plain.specs.declared.finding.Path.{Path}
use Rattle.zc_plain.specs.declared.plain_pool.PlainBlock.{PlainBlock}
use Rattle.zc_plain.specs.declared.plain_pool.PlainBlock.TheVariants.{Hole, Made}
use Rattle.zc_plain.specs.declared.plain_pool.PlainFile.{PlainFile}
use Rattle.zc_plain.specs.declared.plain_pool.PlainDataset.{PlainDataset}
use Rattle.zc_plain.specs.declared.plain_pool.PlainPool.{PlainPool}
use Rattle.zc_plain.specs.PlainPool.{blocks_of_size, block_at, is_made, is_hole, made_count, new_file, new_dataset, dataset_at, file_at, with_new_dataset, with_new_file, without_file, in_dataset, in_files, in_file, pointers_in}
use Rattle.zc_plain.specs.Putting.{first_touched, touched_count}
use Rattle.zc_plain.specs.Written.{touches, made_block, written_block, written}
use Rattle.zc_plain.specs.Truncated.{is_trimmed, trimmed_block, truncated_block, truncated, is_inside}
use Rattle.zc_plain.specs.IsPlain.{StandsAt, IsPlainFile, IsPlain}
use Rattle.zc_plain.specs.Answer.{◌>>=◌, path_of, holes_touched, pointers_after, refuse_end, refuse_pointers, room_in_file, most_pointers, answer}
use Rattle.zc_plain.specs.Promises.{HaveFewPointers}
use Rattle.zc_plain.specs.declared.tally.Tally.{Tally}
use Rattle.zc_plain.proofs.Together.{block_by_place, touched, untouched_before, untouched_after}
use Rattle.zc_plain.proofs.Counted.{counted_push}
use Rattle.zc_plain.proofs.NumberedLaws.{no_item, one_item, stood_or_new, stood_or_changed, stood_before_removal, skipped}
use Rattle.zc_plain.proofs.Places.{dataset_there, file_there}
use Rattle.zc_plain.proofs.PlainLaws.{next_of, plain_file_at}
use Rattle.zc_plain.proofs.ByCommand.{Goal, PutGoal, by_command}
use Rattle.zc_plain.proofs.CommandLaws.{dataset_of_is, path_of_is, file_at_is}

abbrev some_of : {X : Type 0} → X → Option X
some_of x = Some x

-- a function of the value of an option
of_value : {X : Type 0} (h : X → ℕ) (a b : X) → some_of a ≡ Some b → h a ≡ h b
of_value h a b e = ap h (one_item a b e)

-- a sum over a list of which one item is changed
sum_of_changed : {X : Type 0} (f : X → ℕ) (g : X → X) (place : ℕ) (xs : List X) (x : X) → StandsAt xs place x → sum_by f (change_at g place xs) + f x ≡ sum_by f xs + f (g x)
sum_of_changed f g place [] x stands = no_item x stands
sum_of_changed f g zero (y ∷ xs) x stands =
    let same : f y ≡ f x = of_value f y x stands in
    let moved : f (g y) ≡ f (g x) = of_value (λ z. f (g z)) y x stands in
    omega (arith, sum_by-cons f (g y) xs, sum_by-cons f y xs, same, moved)
sum_of_changed f g (suc place) (y ∷ xs) x stands = omega (arith, sum_by-cons f y (change_at g place xs), sum_by-cons f y xs, sum_of_changed f g place xs x stands)

-- 1 for what counts
abbrev weight : Bool → ℕ
weight b = cond b 1 0

-- one more item of a list that is given item by item, counted
count_more : {X : Type 0} (p : X → Bool) (n : ℕ) (f : ℕ → X) → count_by p (each (suc n) f) ≡ count_by p (each n f) + weight (p (f n))
count_more p n f =
    let next : suc n ≡ n + 1 = omega arith in
    ap (λ (m : ℕ). count_by p (each m f)) next ∙ ap (count_by p) (each_more n f) ∙ counted_push p (each n f) (f n)

count_none : {X : Type 0} (p : X → Bool) (f : ℕ → X) → count_by p (each 0 f) ≡ 0
count_none p f = ap (count_by p) (each_none f)

-- a block is made or a hole
made_or_hole : (block : PlainBlock) → weight (is_made block) + weight (is_hole block) ≡ 1
made_or_hole Hole = refl
made_or_hole (Made entry index bytes) = refl

-- the blocks of a file up to any index
blocks_all : (blocks : List PlainBlock) → each (length blocks) (λ k. block_at k blocks) ≡ blocks
blocks_all blocks = sym (each_from_items (λ k. block_at k blocks) blocks (length blocks) Hole refl (λ k within. sym (block_by_place blocks k)))

-- after the last there are holes, which aren't counted
made_beyond : (blocks : List PlainBlock) (more : ℕ) → count_by is_made (each (length blocks + more) (λ k. block_at k blocks)) ≡ made_count blocks
unfolding made_count
made_beyond blocks zero = ap (λ (n : ℕ). count_by is_made (each n (λ k. block_at k blocks))) (same (length blocks)) ∙ ap (count_by is_made) (blocks_all blocks)
  where
    same : (n : ℕ) → n + 0 ≡ n
    same n = omega arith
made_beyond blocks (suc more) =
    let next : length blocks + suc more ≡ suc (length blocks + more) = omega arith in
    let hole : block_at (length blocks + more) blocks ≡ Hole = block_by_place blocks (length blocks + more) ∙ get_or_past blocks (length blocks + more) Hole (omega arith) in
    let none : weight (is_made (block_at (length blocks + more) blocks)) ≡ 0 = ap (λ (b : PlainBlock). weight (is_made b)) hole in
    ap (λ (n : ℕ). count_by is_made (each n (λ k. block_at k blocks))) next
    ∙ count_more is_made (length blocks + more) (λ k. block_at k blocks)
    ∙ omega (arith, none, made_beyond blocks more)

made_from : (blocks : List PlainBlock) (n : ℕ) → length blocks ≤ n → count_by is_made (each n (λ k. block_at k blocks)) ≡ made_count blocks
made_from blocks n far =
    let whole : length blocks + (n - length blocks) ≡ n = omega arith in
    ap (λ (m : ℕ). count_by is_made (each m (λ k. block_at k blocks))) (sym whole) ∙ made_beyond blocks (n - length blocks)

made_up_to : (blocks : List PlainBlock) (n : ℕ) → count_by is_made (each n (λ k. block_at k blocks)) ≤ made_count blocks
unfolding made_count
made_up_to blocks n =
    ⊎_elim
    (λ (within : n < length blocks).
    let front : each n (λ k. block_at k blocks) ≡ take n blocks = sym (take_each n (length blocks) (λ k. block_at k blocks) (omega arith)) ∙ ap (take n) (blocks_all blocks) in
    subst (λ (bs : List PlainBlock). count_by is_made bs ≤ count_by is_made blocks) (sym front) (sum_by-take-le (λ (b : PlainBlock). cond (is_made b) 1 0) blocks n))
    (λ (far : length blocks ≤ n). let all = made_from blocks n far in omega (arith, all))
    (cases_lt n (length blocks))

-- blocks of which those from one index up to another are made, and every other is made where it was
count_made : (g f : ℕ → PlainBlock) (first last : ℕ) → ((k : ℕ) → k < first → is_made (g k) ≡ is_made (f k)) → ((k : ℕ) → first ≤ k → k < last → is_made (g k) ≡ true) → ((k : ℕ) → last ≤ k → is_made (g k) ≡ is_made (f k))
    → (n : ℕ) → count_by is_made (each n g) ≡ count_by is_made (each n f) + count_by is_hole (each (min n last - first) (λ k. f (first + k)))
count_made g f first last before inside behind zero =
    let none : min 0 last - first ≡ 0 = omega arith in
    let no_hole : count_by is_hole (each (min 0 last - first) (λ k. f (first + k))) ≡ 0 = ap (λ (n : ℕ). count_by is_hole (each n (λ k. f (first + k)))) none ∙ count_none is_hole (λ k. f (first + k)) in
    omega (arith, no_hole, count_none is_made g, count_none is_made f)
count_made g f first last before inside behind (suc n) =
    let earlier = count_made g f first last before inside behind n in
    let one_g = count_more is_made n g in
    let one_f = count_more is_made n f in
    let holes : ℕ → ℕ = λ m. count_by is_hole (each m (λ k. f (first + k))) in
    ⊎_elim
    (λ (low : n < first).
    let same : holes (min (suc n) last - first) ≡ holes (min n last - first) = ap holes (omega arith) in
    let alike : weight (is_made (g n)) ≡ weight (is_made (f n)) = ap weight (before n low) in
    omega (arith, earlier, one_g, one_f, same, alike))
    (λ (from : first ≤ n).
    ⊎_elim
    (λ (until : n < last).
    let next : min (suc n) last - first ≡ suc (n - first) = omega arith in
    let now' : min n last - first ≡ n - first = omega arith in
    let there : first + (n - first) ≡ n = omega arith in
    let one_hole : holes (min (suc n) last - first) ≡ holes (n - first) + weight (is_hole (f (first + (n - first)))) = ap holes next ∙ count_more is_hole (n - first) (λ k. f (first + k)) in
    let hole_there : weight (is_hole (f (first + (n - first)))) ≡ weight (is_hole (f n)) = ap (λ (k : ℕ). weight (is_hole (f k))) there in
    let holes_now : holes (min n last - first) ≡ holes (n - first) = ap holes now' in
    let is : weight (is_made (g n)) ≡ 1 = ap weight (inside n from until) in
    omega (arith, earlier, one_g, one_f, one_hole, hole_there, holes_now, is, made_or_hole (f n)))
    (λ (past : last ≤ n).
    let same : holes (min (suc n) last - first) ≡ holes (min n last - first) = ap holes (omega arith) in
    let alike : weight (is_made (g n)) ≡ weight (is_made (f n)) = ap weight (behind n past) in
    omega (arith, earlier, one_g, one_f, same, alike))
    (cases_lt n last))
    (cases_lt n first)

-- a block that the bytes touch is made, and every other stays
made_touched : (number offset : ℕ) (bytes : List ℕ) (blocks : List PlainBlock) (k : ℕ) → touches offset (length bytes) k ≡ true → is_made (written_block number offset bytes blocks k) ≡ true
unfolding written_block made_block
made_touched number offset bytes blocks k is = rw is refl

kept_untouched : (number offset : ℕ) (bytes : List ℕ) (blocks : List PlainBlock) (k : ℕ) → touches offset (length bytes) k ≡ false → is_made (written_block number offset bytes blocks k) ≡ is_made (block_at k blocks)
unfolding written_block
kept_untouched number offset bytes blocks k is = rw is refl

-- a file with bytes written has a pointer more for each hole that they touched
pub pointers_once_written : (number offset : ℕ) (bytes : List ℕ) (file : PlainFile) → IsPlainFile file → 0 < length bytes
    → made_count (written number offset bytes file).blocks ≡ made_count file.blocks + holes_touched offset (length bytes) file.blocks
unfolding written made_count holes_touched
pointers_once_written number offset bytes file plain some =
    let last = blocks_of_size (offset + length bytes) in
    let first = first_touched offset in
    let n = blocks_of_size (max file.size (offset + length bytes)) in
    let count : min n last - first ≡ touched_count offset (length bytes) = omega arith in
    count_made (written_block number offset bytes file.blocks) (λ k. block_at k file.blocks) first last
    (λ k before. kept_untouched number offset bytes file.blocks k (untouched_before offset (length bytes) k before))
    (λ k from until. made_touched number offset bytes file.blocks k (touched offset (length bytes) k some from until))
    (λ k behind. kept_untouched number offset bytes file.blocks k (untouched_after offset (length bytes) k behind)) n
    ∙ ap (λ (m : ℕ). count_by is_made (each n (λ k. block_at k file.blocks)) + count_by is_hole (each m (λ k. block_at (first + k) file.blocks))) count
    ∙ ap (λ (m : ℕ). m + count_by is_hole (each (touched_count offset (length bytes)) (λ k. block_at (first + k) file.blocks))) (made_from file.blocks n (omega (arith, plain.blocks)))

-- a block of a file whose size was set is made where it was
same_made : (number old size : ℕ) (blocks : List PlainBlock) (k : ℕ) → is_made (truncated_block number old size blocks k) ≡ is_made (block_at k blocks)
unfolding truncated_block trimmed_block
same_made number old size blocks k =
    ⊎_elim
    (λ (is : is_trimmed old size blocks k ≡ true).
    let parts = and_parts (nat_lt size old) (is_inside size k && is_made (block_at k blocks)) is in
    let inner = and_parts (is_inside size k) (is_made (block_at k blocks)) parts.1 in
    rw is (sym inner.1))
    (λ (is : is_trimmed old size blocks k ≡ false). rw is refl)
    (cases_Bool (is_trimmed old size blocks k))

-- so as many are made, up to any index
count_same : (g f : ℕ → PlainBlock) → ((k : ℕ) → is_made (g k) ≡ is_made (f k)) → (n : ℕ) → count_by is_made (each n g) ≡ count_by is_made (each n f)
count_same g f same zero = count_none is_made g ∙ sym (count_none is_made f)
count_same g f same (suc n) =
    let alike : weight (is_made (g n)) ≡ weight (is_made (f n)) = ap weight (same n) in
    omega (arith, count_more is_made n g, count_more is_made n f, count_same g f same n, alike)

-- a file whose size was set has no pointer more
pub pointers_once_truncated : (number size : ℕ) (file : PlainFile) → made_count (truncated number size file).blocks ≤ made_count file.blocks
unfolding truncated made_count
pointers_once_truncated number size file =
    let n = blocks_of_size size in
    let same = count_same (truncated_block number file.size size file.blocks) (λ k. block_at k file.blocks) (λ k. same_made number file.size size file.blocks k) n in
    omega (arith, same, made_up_to file.blocks n)

-- the pointers of a dataset of which a file is changed
pointers_changed : (dataset file : List ℕ) (path : Path) (change : PlainFile → PlainFile) (pool : PlainPool) → path_of dataset file pool ≡ Ok path
    → pointers_in (dataset_at path.dataset (in_file path change pool)) + made_count (file_at path pool).blocks ≡ pointers_in (dataset_at path.dataset pool) + made_count (change (file_at path pool)).blocks
unfolding pointers_in
pointers_changed dataset file path change pool found =
    let d = dataset_of_is dataset pool path.dataset (path_of_is dataset file pool path found).0 in
    let f = file_at_is dataset file pool path d.0 found d.1 in
    let before : dataset_at path.dataset pool ≡ d.0 = dataset_there pool path.dataset d.0 d.1 in
    let d_now : StandsAt (in_file path change pool).datasets path.dataset (in_files path.file change d.0) = get_of_change_at (in_files path.file change) path.dataset pool.datasets ∙ ap (option_map (in_files path.file change)) d.1 in
    let after : dataset_at path.dataset (in_file path change pool) ≡ in_files path.file change d.0 = dataset_there (in_file path change pool) path.dataset (in_files path.file change d.0) d_now in
    let there : StandsAt (dataset_at path.dataset pool).files path.file f.0 = ap (λ (x : PlainDataset). slice_get x.files path.file) before ∙ f.1 in
    let it : file_at path pool ≡ f.0 = file_there pool path f.0 there in
    let sum : PlainDataset → ℕ = λ (x : PlainDataset). sum_by (λ (y : PlainFile). made_count y.blocks) x.files in
    let one : PlainFile → ℕ = λ (y : PlainFile). made_count y.blocks in
    let sum_before : sum (dataset_at path.dataset pool) ≡ sum d.0 = ap sum before in
    let sum_after : sum (dataset_at path.dataset (in_file path change pool)) ≡ sum (in_files path.file change d.0) = ap sum after in
    let one_before : one (file_at path pool) ≡ one f.0 = ap one it in
    let one_after : one (change (file_at path pool)) ≡ one (change f.0) = ap (λ (y : PlainFile). one (change y)) it in
    omega (arith, sum_before, sum_after, one_before, one_after, sum_of_changed one change path.file d.0.files f.0 f.1)

-- the pointers that a write is measured by are those of the dataset once the bytes are written
pub pointers_are : (number : ℕ) (dataset file : List ℕ) (offset : ℕ) (bytes : List ℕ) (path : Path) (pool : PlainPool) → IsPlain pool → path_of dataset file pool ≡ Ok path → 0 < length bytes
    → pointers_in (dataset_at path.dataset (in_file path (written number offset bytes) pool)) ≡ pointers_after offset (length bytes) path pool
pointers_are number dataset file offset bytes path pool plain found some =
    omega (arith, pointers_changed dataset file path (written number offset bytes) pool found, pointers_once_written number offset bytes (file_at path pool) (plain_file_at pool path plain) some)

-- so a write whose end fits is refused for want of pointers just where the dataset would have more of them than it may
pub room_is : (number : ℕ) (dataset file : List ℕ) (offset : ℕ) (bytes : List ℕ) (path : Path) (pool : PlainPool) → IsPlain pool → path_of dataset file pool ≡ Ok path → 0 < length bytes
    → room_in_file offset (length bytes) path pool ≡ (refuse_end (offset + length bytes) pool >>= (λ _. refuse_pointers (pointers_in (dataset_at path.dataset (in_file path (written number offset bytes) pool))) pool))
unfolding room_in_file
room_is number dataset file offset bytes path pool plain found some =
    ap (λ (pointers : ℕ). refuse_end (offset + length bytes) pool >>= (λ _. refuse_pointers pointers pool)) (sym (pointers_are number dataset file offset bytes path pool plain found some))

-- a truncation raises no dataset's pointers
pub pointers_not_raised : (number size : ℕ) (dataset file : List ℕ) (path : Path) (pool : PlainPool) → path_of dataset file pool ≡ Ok path
    → pointers_in (dataset_at path.dataset (in_file path (truncated number size) pool)) ≤ pointers_in (dataset_at path.dataset pool)
pointers_not_raised number size dataset file path pool found =
    omega (arith, pointers_changed dataset file path (truncated number size) pool found, pointers_once_truncated number size (file_at path pool))

-- the dataset at a path of which a file is changed
dataset_after : (path : Path) (change : PlainFile → PlainFile) (pool : PlainPool) (dataset : PlainDataset) → StandsAt pool.datasets path.dataset dataset → dataset_at path.dataset (in_file path change pool) ≡ in_files path.file change dataset
dataset_after path change pool dataset stands =
    dataset_there (in_file path change pool) path.dataset (in_files path.file change dataset)
    (get_of_change_at (in_files path.file change) path.dataset pool.datasets ∙ ap (option_map (in_files path.file change)) stands)

-- a new file has no pointer
pointers_with_file : (name : List ℕ) (dataset : PlainDataset) → pointers_in (with_new_file name dataset) ≡ pointers_in dataset
unfolding pointers_in made_count
pointers_with_file name dataset = sum_by_push (λ (file : PlainFile). made_count file.blocks) dataset.files (new_file dataset.next_file name) ∙ omega arith

-- a removal raises no sum
sum_of_removed : {X : Type 0} (f : X → ℕ) (xs : List X) (place : ℕ) → sum_by f (remove xs place) ≤ sum_by f xs
sum_of_removed f [] zero = omega arith
sum_of_removed f [] (suc place) = omega arith
sum_of_removed f (x ∷ xs) zero = omega (arith, sum_by-cons f x xs)
sum_of_removed f (x ∷ xs) (suc place) = omega (arith, sum_by-cons f x xs, sum_by-cons f x (remove xs place), sum_of_removed f xs place)

pointers_without_file : (place : ℕ) (dataset : PlainDataset) → pointers_in (without_file place dataset) ≤ pointers_in dataset
unfolding pointers_in
pointers_without_file place dataset = sum_of_removed (λ (file : PlainFile). made_count file.blocks) dataset.files place

-- a pool with a dataset changed, which has few pointers then
few_in_dataset : (place : ℕ) (change : PlainDataset → PlainDataset) (pool : PlainPool) → HaveFewPointers pool → ((d : PlainDataset) → StandsAt pool.datasets place d → pointers_in (change d) ≤ most_pointers pool) → HaveFewPointers (in_dataset place change pool)
few_in_dataset place change pool few fits at dataset stands =
    let was = stood_or_changed change place pool.datasets at dataset stands in
    ⊎_elim
    (λ (same : dataset ≡ was.0). subst (λ (d : PlainDataset). pointers_in d ≤ most_pointers pool) (sym same) (few at was.0 was.1))
    (λ (changed : (at ≡ place) × (dataset ≡ change was.0)).
    let there : StandsAt pool.datasets place was.0 = subst (λ (k : ℕ). StandsAt pool.datasets k was.0) changed.0 was.1 in
    subst (λ (d : PlainDataset). pointers_in d ≤ most_pointers pool) (sym changed.1) (fits was.0 there))
    was.2

-- a pool with a new dataset, which has none
few_with_dataset : (name : List ℕ) (pool : PlainPool) → HaveFewPointers pool → HaveFewPointers (with_new_dataset name pool)
unfolding pointers_in
few_with_dataset name pool few at dataset stands =
    ⊎_elim
    (λ (before : StandsAt pool.datasets at dataset). few at dataset before)
    (λ (new : (at ≡ length pool.datasets) × (dataset ≡ new_dataset pool.next_dataset name)).
    let none : pointers_in dataset ≡ 0 = ap (λ (d : PlainDataset). pointers_in d) new.1 in
    omega (arith, none))
    (stood_or_new pool.datasets (new_dataset pool.next_dataset name) at dataset stands)

-- bytes in a file, where the dataset has room for their pointers
few_once_put : (number : ℕ) (tally : Tally) (pool : PlainPool) (dataset file : List ℕ) (offset : ℕ) (bytes : List ℕ) → IsPlain pool → HaveFewPointers pool → PutGoal (λ given. HaveFewPointers (next_of pool given)) number tally pool dataset file offset bytes
few_once_put number tally pool dataset file offset bytes plain few = λ path found. (
  λ empty. few,
  λ full room free. few_in_dataset path.dataset (in_files path.file (written number offset bytes)) pool few
      (λ d stands.
      let some : 0 < length bytes = omega (arith, eqb-false (length bytes) 0 full) in
      let is = ap (λ (x : PlainDataset). pointers_in x) (dataset_after path (written number offset bytes) pool d stands) in
      omega (arith, is, pointers_are number dataset file offset bytes path pool plain found some, room)),
)

few_goal : (number : ℕ) (tally : Tally) (pool : PlainPool) (command : Command) → IsPlain pool → HaveFewPointers pool → Goal (λ given. HaveFewPointers (next_of pool given)) number tally pool command
few_goal number tally pool (Mkds dataset) plain few = λ missing. few_with_dataset dataset pool few
few_goal number tally pool (Rmds dataset) plain few = λ place found. λ at d stands. few (skipped place at) d (stood_before_removal place pool.datasets at d stands)
few_goal number tally pool (Mount dataset) plain few = tt
few_goal number tally pool (Create dataset file) plain few = λ place found missing.
    few_in_dataset place (with_new_file file) pool few (λ d stands. let same = pointers_with_file file d in omega (arith, same, few place d stands))
few_goal number tally pool (Remove dataset file) plain few = λ path found.
    few_in_dataset path.dataset (without_file path.file) pool few (λ d stands. omega (arith, pointers_without_file path.file d, few path.dataset d stands))
few_goal number tally pool (Write dataset file offset bytes) plain few = few_once_put number tally pool dataset file offset bytes plain few
few_goal number tally pool (Fill dataset file offset len byte) plain few = few_once_put number tally pool dataset file offset (replicate len byte) plain few
few_goal number tally pool (Truncate dataset file size) plain few = λ path found free.
    few_in_dataset path.dataset (in_files path.file (truncated number size)) pool few
    (λ d stands.
    let is = ap (λ (x : PlainDataset). pointers_in x) (dataset_after path (truncated number size) pool d stands) in
    let was = ap (λ (x : PlainDataset). pointers_in x) (dataset_there pool path.dataset d stands) in
    omega (arith, is, was, pointers_not_raised number size dataset file path pool found, few path.dataset d stands))
few_goal number tally pool (Read dataset file offset len) plain few = λ path found. few
few_goal number tally pool (Stat dataset file) plain few = λ path found. few
few_goal number tally pool Commit plain few = few

-- no command brings the pointers of a dataset above their limit
pub pointers_stay_few : (number : ℕ) (tally : Tally) (pool : PlainPool) (command : Command) → IsPlain pool → HaveFewPointers pool → HaveFewPointers (next_of pool (answer number tally pool command))
pointers_stay_few number tally pool command plain few = by_command (λ given. HaveFewPointers (next_of pool given)) number tally pool (λ refusal. few) command (few_goal number tally pool command plain few)
