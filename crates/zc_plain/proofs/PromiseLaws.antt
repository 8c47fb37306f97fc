-- Each entry keeps the promises.
use Rattle.std.proofs.Common.{◌≡◌, ◌≢◌, ℕ, ◌+◌, ◌-◌, ◌<◌, ◌≤◌, ◌==◌, min, true, false, List, [], ◌∷◌, length, get_or, replicate, Option, Some, None, Result, Ok, ◌⊎◌, inl, inr, refl, sym, ap, subst, ◌∙◌, ⊎_elim, arith}
use Rattle.std.specs.Prelude.{slice_get}
use Rattle.std.specs.Option.{option_and_then}
use Rattle.std.specs.Str.{bytes_eq}
use Rattle.std.proofs.lemmas.Bool.{true≢false, cases_Bool, cases_lt, eqb-true, eqb-false}
use Rattle.std.proofs.lemmas.List.{length-replicate}
use Rattle.zc_num.specs.Limits.{data_places_of}
use Rattle.zc_num.specs.declared.limits.Limits.{Limits}
use Rattle.zc_num.proofs.Each.{length_each, item_of_each}
use Rattle.zc_command.specs.declared.command.Command.{Command}
use Rattle.zc_command.specs.declared.command.Command.TheVariants.{Mkds, Rmds, Mount, Create, Remove, Write, Fill, Truncate, Read, Stat, Commit}
use Rattle.zc_command.specs.declared.refusal.Refusal.{Refusal}
use Rattle.zc_command.specs.declared.reply.Reply.{Reply}
use Rattle.zc_command.specs.declared.reply.Reply.TheVariants.{Done, No}
use Rattle.zc_command.specs.Names.{names_of}
use Rattle.zc_plain.specs.declared.entry.Entry.{Entry}
use Rattle.zc_plain.specs.declared.entry.Entry.TheVariants as entry
use Rattle.zc_plain.specs.declared.finding.Path.{Path}
use Rattle.zc_plain.specs.declared.plain_pool.PlainFile.{PlainFile}
use Rattle.zc_plain.specs.declared.plain_pool.PlainDataset.{PlainDataset}
use Rattle.zc_plain.specs.declared.plain_pool.PlainPool.{PlainPool}
use Rattle.zc_plain.specs.declared.tally.Tally.{Tally}
use Rattle.zc_plain.specs.PlainPool.{byte_of, bytes_from, new_dataset, dataset_at, file_at, with_new_dataset, with_new_file, without_dataset, without_file, in_dataset, in_files, in_file}
use Rattle.zc_plain.specs.Written.{written}
use Rattle.zc_plain.specs.Truncated.{truncated}
use Rattle.zc_plain.specs.Charge.{with_blocks, charge_of}
use Rattle.zc_plain.specs.Answer.{most_charge, dataset_place, dataset_of, path_of, blocks_of_command, counted, answer, settled}
use Rattle.zc_plain.specs.History.{PlainState, is_waiting, reply_to, reply_at, reply_of, pool_after_command, next_pool, tally_after, next_tally, next_number, step}
use Rattle.zc_plain.specs.IsPlain.{StandsAt, IsPlainFile, IsPlain, IsState}
use Rattle.zc_plain.specs.Promises.{dataset_named, file_among, file_named, IsWritten, IsTruncated, AreBytesOf, FileBecame, UnlessCount, HasDone, Promises}
use Rattle.zc_plain.proofs.Bytes.{bytes_from_each}
use Rattle.zc_plain.proofs.PlainLaws.{next_of, plain_file_at}
use Rattle.zc_plain.proofs.WrittenLaws.{id_of_written, name_of_written, size_of_written, byte_written, byte_not_written}
use Rattle.zc_plain.proofs.TruncatedLaws.{id_of_truncated, name_of_truncated, size_of_truncated, byte_before_size, zero_past_size}
use Rattle.zc_plain.proofs.OtherLaws.{name_is}
use Rattle.zc_plain.proofs.NumberedLaws.{one_item, no_item}
use Rattle.zc_plain.proofs.NumberLaws.{unchanged, no_number_twice}
use Rattle.zc_plain.proofs.ChargeLaws.{nothing_counted, no_command_lowers_charge}
use Rattle.zc_plain.proofs.Places.{dataset_there}
use Rattle.zc_plain.proofs.CommandLaws.{dataset_of_is, path_of_is, file_at_is, path_kept, changed_at_path}
use Rattle.zc_plain.proofs.HistoryLaws.{waiting_changes_nothing}
use Rattle.zc_plain.proofs.NamedLaws.{names_same, dataset_found, dataset_missing, file_missing, file_in_named, file_found, dataset_came, other_dataset_came, dataset_went, other_dataset_went, dataset_changed, other_dataset_changed, file_beside_changed, file_came, other_file_came, file_went, other_file_went, other_file_changed}
use Rattle.zc_plain.proofs.PointerLaws.{pointers_stay_few}
use Rattle.zc_plain.proofs.ByCommand.{Goal, PutGoal, by_command}

abbrev some_of : {X : Type 0} → X → Option X
some_of x = Some x

abbrev Given : Type 0
Given = Result (Reply × PlainPool) Refusal

-- a refusal changes nothing
abbrev RefusedSame : Tally → PlainPool → Command → Refusal → Given → Type 0
RefusedSame tally pool command refusal given = (settled pool given).0 ≡ No refusal → (next_of pool given ≡ pool) × (counted tally (blocks_of_command tally pool command) given ≡ tally)

refused_goal : (number : ℕ) (tally : Tally) (pool : PlainPool) (refusal : Refusal) (command : Command) → Goal (RefusedSame tally pool command refusal) number tally pool command
refused_goal number tally pool refusal (Mkds dataset) = λ missing e. cc
refused_goal number tally pool refusal (Rmds dataset) = λ place found e. cc
refused_goal number tally pool refusal (Mount dataset) = tt
refused_goal number tally pool refusal (Create dataset file) = λ place found missing e. cc
refused_goal number tally pool refusal (Remove dataset file) = λ path found e. cc
refused_goal number tally pool refusal (Write dataset file offset bytes) = λ path found. (λ empty e. cc, λ full room free e. cc)
refused_goal number tally pool refusal (Fill dataset file offset len byte) = λ path found. (λ empty e. cc, λ full room free e. cc)
refused_goal number tally pool refusal (Truncate dataset file size) = λ path found free e. cc
refused_goal number tally pool refusal (Read dataset file offset len) = λ path found e. cc
refused_goal number tally pool refusal (Stat dataset file) = λ path found e. cc
refused_goal number tally pool refusal Commit = λ e. cc

refused_same : (number : ℕ) (tally : Tally) (pool : PlainPool) (command : Command) (refusal : Refusal) → RefusedSame tally pool command refusal (answer number tally pool command)
refused_same number tally pool command refusal =
    by_command (RefusedSame tally pool command refusal) number tally pool (λ other e. (refl, refl)) command (refused_goal number tally pool refusal command)

-- the limits stay
abbrev SameLimits : PlainPool → Given → Type 0
SameLimits pool given = (next_of pool given).limits ≡ pool.limits

limits_goal : (number : ℕ) (tally : Tally) (pool : PlainPool) (command : Command) → Goal (SameLimits pool) number tally pool command
limits_goal number tally pool (Mkds dataset) = λ missing. refl
limits_goal number tally pool (Rmds dataset) = λ place found. refl
limits_goal number tally pool (Mount dataset) = tt
limits_goal number tally pool (Create dataset file) = λ place found missing. refl
limits_goal number tally pool (Remove dataset file) = λ path found. refl
limits_goal number tally pool (Write dataset file offset bytes) = λ path found. (λ empty. refl, λ full room free. refl)
limits_goal number tally pool (Fill dataset file offset len byte) = λ path found. (λ empty. refl, λ full room free. refl)
limits_goal number tally pool (Truncate dataset file size) = λ path found free. refl
limits_goal number tally pool (Read dataset file offset len) = λ path found. refl
limits_goal number tally pool (Stat dataset file) = λ path found. refl
limits_goal number tally pool Commit = refl

limits_stay : (number : ℕ) (tally : Tally) (pool : PlainPool) (command : Command) → SameLimits pool (answer number tally pool command)
limits_stay number tally pool command = by_command (SameLimits pool) number tally pool (λ refusal. refl) command (limits_goal number tally pool command)

-- the charge stays within its limit
abbrev StaysWithin : Tally → PlainPool → Command → Given → Type 0
StaysWithin tally pool command given = charge_of tally ≤ most_charge pool → charge_of (counted tally (blocks_of_command tally pool command) given) ≤ most_charge pool

-- no block more
same_charge : (tally : Tally) (pool : PlainPool) → charge_of tally ≤ most_charge pool → charge_of (with_blocks [] tally) ≤ most_charge pool
same_charge tally pool within = subst (λ (t : Tally). charge_of t ≤ most_charge pool) (sym (nothing_counted tally (Ok (Done, pool)))) within

within_goal : (number : ℕ) (tally : Tally) (pool : PlainPool) (command : Command) → Goal (StaysWithin tally pool command) number tally pool command
unfolding blocks_of_command
within_goal number tally pool (Mkds dataset) = λ missing within. same_charge tally pool within
within_goal number tally pool (Rmds dataset) = λ place found within. same_charge tally pool within
within_goal number tally pool (Mount dataset) = tt
within_goal number tally pool (Create dataset file) = λ place found missing within. same_charge tally pool within
within_goal number tally pool (Remove dataset file) = λ path found within. same_charge tally pool within
within_goal number tally pool (Write dataset file offset bytes) = λ path found. (λ empty within. rw empty (same_charge tally pool within), λ full room free within. rw (full, found) free)
within_goal number tally pool (Fill dataset file offset len byte) = λ path found.
    let many : length (replicate len byte) ≡ len = length-replicate {A = ℕ} len byte in (
      λ empty within. let none : (len == 0) ≡ true = rw many at empty in rw none (same_charge tally pool within),
      λ full room free within. let some : (len == 0) ≡ false = rw many at full in rw (some, found) (rw many at free),
    )
within_goal number tally pool (Truncate dataset file size) = λ path found free within. rw found free
within_goal number tally pool (Read dataset file offset len) = λ path found within. same_charge tally pool within
within_goal number tally pool (Stat dataset file) = λ path found within. same_charge tally pool within
within_goal number tally pool Commit = λ within. same_charge tally pool within

stays_within : (number : ℕ) (tally : Tally) (pool : PlainPool) (command : Command) → StaysWithin tally pool command (answer number tally pool command)
stays_within number tally pool command = by_command (StaysWithin tally pool command) number tally pool (λ refusal within. within) command (within_goal number tally pool command)

-- a dataset that isn't named stays
abbrev SameDataset : List ℕ → PlainPool → Given → Type 0
SameDataset dataset pool given = dataset_named dataset (next_of pool given) ≡ dataset_named dataset pool

apart_from : (name dataset : List ℕ) → some_of name ≢ Some dataset → name ≢ dataset
apart_from name dataset other same = other (ap some_of same)

-- where a file of it is changed
other_owner : (dataset owner file : List ℕ) (path : Path) (change : PlainFile → PlainFile) (pool : PlainPool) → path_of owner file pool ≡ Ok path → some_of owner ≢ Some dataset → dataset_named dataset (in_file path change pool) ≡ dataset_named dataset pool
other_owner dataset owner file path change pool found other =
    other_dataset_changed owner dataset path.dataset (in_files path.file change) pool (λ d. refl) (path_of_is owner file pool path found).0 (apart_from owner dataset other)

other_dataset_goal : (number : ℕ) (tally : Tally) (pool : PlainPool) (dataset : List ℕ) (command : Command) → slice_get (names_of command) 0 ≢ Some dataset → Goal (SameDataset dataset pool) number tally pool command
other_dataset_goal number tally pool dataset (Mkds name) other = λ missing. other_dataset_came name dataset pool (apart_from name dataset other)
other_dataset_goal number tally pool dataset (Rmds name) other = λ place found. other_dataset_went name dataset place pool found (apart_from name dataset other)
other_dataset_goal number tally pool dataset (Mount name) other = tt
other_dataset_goal number tally pool dataset (Create owner file) other = λ place found missing. other_dataset_changed owner dataset place (with_new_file file) pool (λ d. refl) found (apart_from owner dataset other)
other_dataset_goal number tally pool dataset (Remove owner file) other = λ path found.
    other_dataset_changed owner dataset path.dataset (without_file path.file) pool (λ d. refl) (path_of_is owner file pool path found).0 (apart_from owner dataset other)
other_dataset_goal number tally pool dataset (Write owner file offset bytes) other = λ path found. (λ empty. refl, λ full room free. other_owner dataset owner file path (written number offset bytes) pool found other)
other_dataset_goal number tally pool dataset (Fill owner file offset len byte) other = λ path found. (λ empty. refl, λ full room free. other_owner dataset owner file path (written number offset (replicate len byte)) pool found other)
other_dataset_goal number tally pool dataset (Truncate owner file size) other = λ path found free. other_owner dataset owner file path (truncated number size) pool found other
other_dataset_goal number tally pool dataset (Read owner file offset len) other = λ path found. refl
other_dataset_goal number tally pool dataset (Stat owner file) other = λ path found. refl
other_dataset_goal number tally pool dataset Commit other = refl

other_dataset_stays : (number : ℕ) (tally : Tally) (pool : PlainPool) (command : Command) (dataset : List ℕ) → slice_get (names_of command) 0 ≢ Some dataset → SameDataset dataset pool (answer number tally pool command)
other_dataset_stays number tally pool command dataset other = by_command (SameDataset dataset pool) number tally pool (λ refusal. refl) command (other_dataset_goal number tally pool dataset command other)

-- a file that isn't named stays, unless its dataset goes
abbrev SameFile : List ℕ → List ℕ → PlainPool → Given → Type 0
SameFile dataset file pool given = file_named dataset file (next_of pool given) ≡ file_named dataset file pool

-- where another dataset stays, so do its files
files_stay : (dataset file : List ℕ) (old new : PlainPool) → dataset_named dataset new ≡ dataset_named dataset old → file_named dataset file new ≡ file_named dataset file old
unfolding file_named
files_stay dataset file old new same = ap (option_and_then (file_among file)) same

-- where there is no dataset of the name, there is no file in it, and neither is there in a new one
no_owner : (dataset file : List ℕ) (pool : PlainPool) → dataset_named dataset pool ≡ None → file_named dataset file pool ≡ None
unfolding file_named
no_owner dataset file pool missing = ap (option_and_then (file_among file)) missing

none_in_new : (file : List ℕ) (id : ℕ) (name : List ℕ) → file_among file (new_dataset id name) ≡ None
unfolding file_among
none_in_new file id name = refl

-- two names are one, or they aren't
same_or_not : (a b : List ℕ) → (a ≡ b) ⊎ (a ≢ b)
same_or_not a b =
    ⊎_elim
    (λ (same : bytes_eq a b ≡ true). inl (name_is a b same))
    (λ (differs : bytes_eq a b ≡ false). inr (λ same. true≢false (sym (names_same a b same) ∙ differs)))
    (cases_Bool (bytes_eq a b))

-- the dataset at the place of a name has the name
owner_is : (owner dataset : List ℕ) (pool : PlainPool) (place : ℕ) (d : PlainDataset) → dataset_of owner pool ≡ Ok place → StandsAt pool.datasets place d → d.name ≡ dataset → owner ≡ dataset
owner_is owner dataset pool place d found stands named =
    let there = dataset_of_is owner pool place found in
    sym there.2 ∙ ap (λ (x : PlainDataset). x.name) (one_item there.0 d (sym there.1 ∙ stands)) ∙ named

-- and so has the file at a path
both_are : (owner name dataset file : List ℕ) (pool : PlainPool) (path : Path) (d : PlainDataset) (f : PlainFile) → path_of owner name pool ≡ Ok path → StandsAt pool.datasets path.dataset d → d.name ≡ dataset
    → StandsAt d.files path.file f → f.name ≡ file → owner ∷ name ∷ [] ≡ dataset ∷ file ∷ []
both_are owner name dataset file pool path d f found stands named f_stands f_named =
    let owner_same : owner ≡ dataset = owner_is owner dataset pool path.dataset d (path_of_is owner name pool path found).0 stands named in
    let there = file_at_is owner name pool path d found stands in
    let name_same : name ≡ file = sym there.2 ∙ ap (λ (x : PlainFile). x.name) (one_item there.0 f (sym there.1 ∙ f_stands)) ∙ f_named in
    cc

-- where another file is changed
other_changed : (owner name dataset file : List ℕ) (path : Path) (change : PlainFile → PlainFile) (pool : PlainPool) → ((f : PlainFile) → (change f).name ≡ f.name) → path_of owner name pool ≡ Ok path
    → owner ∷ name ∷ [] ≢ dataset ∷ file ∷ [] → file_named dataset file (in_file path change pool) ≡ file_named dataset file pool
other_changed owner name dataset file path change pool keeps found other =
    file_beside_changed dataset file path.dataset (in_files path.file change) pool (λ d. refl)
    (λ d stands named. other_file_changed file path.file change d keeps (λ f f_stands f_named. other (both_are owner name dataset file pool path d f found stands named f_stands f_named)))

-- where a dataset comes
other_came : (name dataset file : List ℕ) (pool : PlainPool) → dataset_place name pool ≡ None → file_named dataset file (with_new_dataset name pool) ≡ file_named dataset file pool
other_came name dataset file pool missing =
    ⊎_elim
    (λ (same : name ≡ dataset).
    let none = dataset_missing name pool missing in
    subst (λ (n : List ℕ). file_named n file (with_new_dataset name pool) ≡ file_named n file pool) same
    (file_in_named name file (with_new_dataset name pool) (new_dataset pool.next_dataset name) (dataset_came name pool none) ∙ none_in_new file pool.next_dataset name ∙ sym (no_owner name file pool none)))
    (λ (apart : name ≢ dataset). files_stay dataset file pool (with_new_dataset name pool) (other_dataset_came name dataset pool apart))
    (same_or_not name dataset)

other_file_goal : (number : ℕ) (tally : Tally) (pool : PlainPool) (dataset file : List ℕ) (command : Command) → names_of command ≢ dataset ∷ file ∷ [] → command ≢ Rmds dataset → Goal (SameFile dataset file pool) number tally pool command
other_file_goal number tally pool dataset file (Mkds name) other stays = λ missing. other_came name dataset file pool missing
other_file_goal number tally pool dataset file (Rmds name) other stays = λ place found.
    files_stay dataset file pool (without_dataset place pool) (other_dataset_went name dataset place pool found (λ same. stays (ap (λ (n : List ℕ). Rmds n) same)))
other_file_goal number tally pool dataset file (Mount name) other stays = tt
other_file_goal number tally pool dataset file (Create owner name) other stays = λ place found missing.
    file_beside_changed dataset file place (with_new_file name) pool (λ d. refl)
    (λ d stands named. other_file_came name file d
    (λ same. let owner_same = owner_is owner dataset pool place d found stands named in
    let both : owner ∷ name ∷ [] ≡ dataset ∷ file ∷ [] = cc in
    other both))
other_file_goal number tally pool dataset file (Remove owner name) other stays = λ path found.
    file_beside_changed dataset file path.dataset (without_file path.file) pool (λ d. refl)
    (λ d stands named. other_file_went file path.file d (λ f f_stands f_named. other (both_are owner name dataset file pool path d f found stands named f_stands f_named)))
other_file_goal number tally pool dataset file (Write owner name offset bytes) other stays = λ path found.
    (λ empty. refl, λ full room free. other_changed owner name dataset file path (written number offset bytes) pool (name_of_written number offset bytes) found other)
other_file_goal number tally pool dataset file (Fill owner name offset len byte) other stays = λ path found.
    (λ empty. refl, λ full room free. other_changed owner name dataset file path (written number offset (replicate len byte)) pool (name_of_written number offset (replicate len byte)) found other)
other_file_goal number tally pool dataset file (Truncate owner name size) other stays = λ path found free.
    other_changed owner name dataset file path (truncated number size) pool (name_of_truncated number size) found other
other_file_goal number tally pool dataset file (Read owner name offset len) other stays = λ path found. refl
other_file_goal number tally pool dataset file (Stat owner name) other stays = λ path found. refl
other_file_goal number tally pool dataset file Commit other stays = refl

other_file_stays : (number : ℕ) (tally : Tally) (pool : PlainPool) (command : Command) (dataset file : List ℕ) → names_of command ≢ dataset ∷ file ∷ [] → command ≢ Rmds dataset → SameFile dataset file pool (answer number tally pool command)
other_file_stays number tally pool command dataset file other stays = by_command (SameFile dataset file pool) number tally pool (λ refusal. refl) command (other_file_goal number tally pool dataset file command other stays)

-- what the bytes of a file are once some were written, and once its size was set
is_written : (number offset : ℕ) (bytes : List ℕ) (file : PlainFile) → IsPlainFile file → (length bytes == 0) ≡ false → IsWritten offset bytes file (written number offset bytes file)
is_written number offset bytes file plain full = record {
  none = λ empty. absurd (eqb-false (length bytes) 0 full empty);
  size = λ some. size_of_written number offset bytes file;
  inside = λ i from until. byte_written number offset bytes file i plain from until;
  beside = λ i apart. byte_not_written number offset bytes file i plain apart;
}

is_same : (offset : ℕ) (bytes : List ℕ) (file : PlainFile) → (length bytes == 0) ≡ true → IsWritten offset bytes file file
is_same offset bytes file empty =
    let is : length bytes ≡ 0 = eqb-true (length bytes) 0 empty in
    record { none = λ _. refl; size = λ some. absurd (omega arith); inside = λ i from until. absurd (omega arith); beside = λ i apart. refl }

is_truncated : (number size : ℕ) (file : PlainFile) → IsPlainFile file → IsTruncated size file (truncated number size file)
is_truncated number size file plain = record {
  is_size = size_of_truncated number size file;
  kept = λ i less inside. byte_before_size number size file i plain less;
  zeros = λ i past.
      ⊎_elim
      (λ (less : i < size). byte_before_size number size file i plain less ∙ plain.zero_past i (⊎_elim (λ (far : size ≤ i). absurd (omega arith)) (λ (far : file.size ≤ i). far) past))
      (λ (far : size ≤ i). zero_past_size number size file i plain far)
      (cases_lt i size);
}

-- what a read gives
are_bytes : (offset len : ℕ) (file : PlainFile) → AreBytesOf file offset len (bytes_from offset len file)
are_bytes offset len file =
    let count : length (bytes_from offset len file) ≡ min len (file.size - offset) = ap (λ (bs : List ℕ). length bs) (bytes_from_each offset len file) ∙ length_each (min len (file.size - offset)) (λ i. byte_of file (offset + i)) in
    record {
      count = count;
      each_one = λ i within.
          ap (λ (bs : List ℕ). get_or bs i 0) (bytes_from_each offset len file) ∙ item_of_each (min len (file.size - offset)) (λ j. byte_of file (offset + j)) i 0 (omega arith);
    }

-- the file at a path, once it was changed so
became : (Change : PlainFile → PlainFile → Type 0) (dataset file : List ℕ) (path : Path) (change : PlainFile → PlainFile) (pool : PlainPool) → path_of dataset file pool ≡ Ok path → ((f : PlainFile) → (change f).id ≡ f.id)
    → ((f : PlainFile) → (change f).name ≡ f.name) → Change (file_at path pool) (change (file_at path pool)) → FileBecame Change dataset file pool (in_file path change pool)
became Change dataset file path change pool found keeps_id keeps_name so =
    let still : path_of dataset file (in_file path change pool) ≡ Ok path = path_kept path change dataset file pool keeps_name ∙ found in (
      file_at path pool,
      change (file_at path pool),
      file_found dataset file pool path found,
      file_found dataset file (in_file path change pool) path still ∙ ap some_of (changed_at_path dataset file path change pool found),
      sym (keeps_id (file_at path pool)),
      so,
    )

-- what isn't refused is done
abbrev Acted : PlainPool → Command → Given → Type 0
Acted pool command given = HasDone pool (next_of pool given) (Some (settled pool given).0) command

-- of a write
abbrev PutActed : List ℕ → List ℕ → ℕ → List ℕ → PlainPool → Given → Type 0
PutActed dataset file offset bytes pool given = UnlessCount (λ count. (count ≡ length bytes) × FileBecame (IsWritten offset bytes) dataset file pool (next_of pool given)) (Some (settled pool given).0)

put_acted : (number : ℕ) (tally : Tally) (pool : PlainPool) (dataset file : List ℕ) (offset : ℕ) (bytes : List ℕ) → IsPlain pool → PutGoal (PutActed dataset file offset bytes pool) number tally pool dataset file offset bytes
put_acted number tally pool dataset file offset bytes plain = λ path found. (
  λ empty.
      let is : length bytes ≡ 0 = eqb-true (length bytes) 0 empty in
      let there = file_found dataset file pool path found in
      (sym is, (file_at path pool, file_at path pool, there, there, refl, is_same offset bytes (file_at path pool) empty)),
  λ full room free. (
    refl,
    became (IsWritten offset bytes) dataset file path (written number offset bytes) pool found (id_of_written number offset bytes) (name_of_written number offset bytes)
        (is_written number offset bytes (file_at path pool) (plain_file_at pool path plain) full),
  ),
)

-- a file that is removed is gone
removed : (dataset file : List ℕ) (path : Path) (pool : PlainPool) → IsPlain pool → path_of dataset file pool ≡ Ok path → file_named dataset file (in_dataset path.dataset (without_file path.file) pool) ≡ None
removed dataset file path pool plain found =
    let parts = path_of_is dataset file pool path found in
    let owner = dataset_of_is dataset pool path.dataset parts.0 in
    let it = file_at_is dataset file pool path owner.0 found owner.1 in
    let same : dataset_at path.dataset pool ≡ owner.0 = dataset_there pool path.dataset owner.0 owner.1 in
    file_in_named dataset file (in_dataset path.dataset (without_file path.file) pool) (without_file path.file owner.0)
    (dataset_changed dataset path.dataset (without_file path.file) pool (λ d. refl) parts.0 ∙ ap (λ (d : PlainDataset). some_of (without_file path.file d)) same)
    ∙ file_went file path.file owner.0 it.0 (plain.datasets path.dataset owner.0 owner.1).numbered it.1 it.2

acted : (number : ℕ) (tally : Tally) (pool : PlainPool) (command : Command) → IsPlain pool → HasDone pool (pool_after_command number tally pool command) (reply_to number tally pool command) command
acted number tally pool (Mkds dataset) plain =
    by_command (Acted pool (Mkds dataset)) number tally pool (λ refusal. tt) (Mkds dataset)
    (λ missing. let none = dataset_missing dataset pool missing in (none, dataset_came dataset pool none))
acted number tally pool (Rmds dataset) plain =
    by_command (Acted pool (Rmds dataset)) number tally pool (λ refusal. tt) (Rmds dataset)
    (λ place found. (dataset_at place pool, dataset_found dataset pool place found, dataset_went dataset place pool plain.numbered found))
acted number tally pool (Mount dataset) plain = by_command (Acted pool (Mount dataset)) number tally pool (λ refusal. tt) (Mount dataset) tt
acted number tally pool (Create dataset file) plain =
    by_command (Acted pool (Create dataset file)) number tally pool (λ refusal. tt) (Create dataset file)
    (λ place found missing.
    let owner = dataset_at place pool in
    let there = dataset_found dataset pool place found in
    let none = file_missing file owner missing in (
      owner,
      there,
      file_in_named dataset file pool owner there ∙ none,
      file_in_named dataset file (in_dataset place (with_new_file file) pool) (with_new_file file owner) (dataset_changed dataset place (with_new_file file) pool (λ d. refl) found) ∙ file_came file owner none,
    ))
acted number tally pool (Remove dataset file) plain =
    by_command (Acted pool (Remove dataset file)) number tally pool (λ refusal. tt) (Remove dataset file)
    (λ path found. (file_at path pool, file_found dataset file pool path found, removed dataset file path pool plain found))
acted number tally pool (Write dataset file offset bytes) plain =
    by_command (Acted pool (Write dataset file offset bytes)) number tally pool (λ refusal. tt) (Write dataset file offset bytes) (put_acted number tally pool dataset file offset bytes plain)
acted number tally pool (Fill dataset file offset len byte) plain =
    let many : length (replicate len byte) ≡ len = length-replicate {A = ℕ} len byte in
    by_command (Acted pool (Fill dataset file offset len byte)) number tally pool (λ refusal. tt) (Fill dataset file offset len byte)
    (λ path found.
    let goal = put_acted number tally pool dataset file offset (replicate len byte) plain path found in
    (λ empty. let done = goal.0 empty in (done.0 ∙ many, done.1), λ full room free. let done = goal.1 full room free in (done.0 ∙ many, done.1)))
acted number tally pool (Truncate dataset file size) plain =
    by_command (Acted pool (Truncate dataset file size)) number tally pool (λ refusal. tt) (Truncate dataset file size)
    (λ path found free.
    became (IsTruncated size) dataset file path (truncated number size) pool found (id_of_truncated number size) (name_of_truncated number size)
    (is_truncated number size (file_at path pool) (plain_file_at pool path plain)))
acted number tally pool (Read dataset file offset len) plain =
    by_command (Acted pool (Read dataset file offset len)) number tally pool (λ refusal. tt) (Read dataset file offset len)
    (λ path found. (file_at path pool, file_found dataset file pool path found, are_bytes offset len (file_at path pool), refl))
acted number tally pool (Stat dataset file) plain =
    by_command (Acted pool (Stat dataset file)) number tally pool (λ refusal. tt) (Stat dataset file)
    (λ path found. (file_at path pool, file_found dataset file pool path found, (refl, refl), refl))
acted number tally pool Commit plain = (refl, waiting_changes_nothing number tally pool Commit refl)

-- a refusal that is told is the answer
told_refusal : (number : ℕ) (tally : Tally) (pool : PlainPool) (command : Command) (refusal : Refusal) → reply_to number tally pool command ≡ Some (No refusal) → (settled pool (answer number tally pool command)).0 ≡ No refusal
told_refusal number tally pool command refusal told =
    ⊎_elim
    (λ (waits : is_waiting command ≡ true). no_item (No refusal) (rw waits at told))
    (λ (at_once : is_waiting command ≡ false). one_item (settled pool (answer number tally pool command)).0 (No refusal) (rw at_once at told))
    (cases_Bool (is_waiting command))

-- a charge within the limit, where the limits stay
within_same : (charge : ℕ) (old new : PlainPool) → new.limits ≡ old.limits → charge ≤ most_charge old → charge ≤ most_charge new
within_same charge old new same within = subst (λ (limits : Limits). charge ≤ data_places_of limits.devices limits.places) (sym same) within

kept : (old : PlainState) (one : Entry) → IsState old → Promises old (step old one) (reply_of old one) one
unfolding step reply_of
kept old (entry.Ask session command) is =
    let number = next_number old in
    record {
      refused = λ refusal told. refused_same number old.tally old.pool command refusal (told_refusal number old.tally old.pool command refusal told);
      charge = λ _. no_command_lowers_charge number old.tally old.pool command;
      within = λ _ within.
          let same = limits_stay number old.tally old.pool command in
          within_same (charge_of (tally_after number old.tally old.pool command)) old.pool (pool_after_command number old.tally old.pool command) same (stays_within number old.tally old.pool command within);
      pointers = λ few. pointers_stay_few number old.tally old.pool command is.plain few;
      limits = limits_stay number old.tally old.pool command;
      numbers = no_number_twice number old.tally old.pool command;
      other_datasets = λ dataset other. other_dataset_stays number old.tally old.pool command dataset other;
      other_files = λ dataset file other stays. other_file_stays number old.tally old.pool command dataset file other (λ same. stays session (ap (λ (c : Command). entry.Ask session c) same));
      acted = acted number old.tally old.pool command is.plain;
    }
kept old (entry.Answer session reply) is = record {
  refused = λ refusal told. (refl, refl);
  charge = λ _. omega arith;
  within = λ _ within. within;
  pointers = λ few. few;
  limits = refl;
  numbers = unchanged old.pool;
  other_datasets = λ dataset other. refl;
  other_files = λ dataset file other stays. refl;
  acted = (refl, refl);
}
kept old (entry.Seal group) is = record {
  refused = λ refusal told. no_item (No refusal) told;
  charge = λ _. omega arith;
  within = λ _ within. within;
  pointers = λ few. few;
  limits = refl;
  numbers = unchanged old.pool;
  other_datasets = λ dataset other. refl;
  other_files = λ dataset file other stays. refl;
  acted = (refl, refl);
}
kept old (entry.Finish group held) is = record {
  refused = λ refusal told. no_item (No refusal) told;
  charge = λ not_finish. absurd (true≢false not_finish);
  within = λ not_finish within. absurd (true≢false not_finish);
  pointers = λ few. few;
  limits = refl;
  numbers = unchanged old.pool;
  other_datasets = λ dataset other. refl;
  other_files = λ dataset file other stays. refl;
  acted = (refl, refl);
}

-- each entry keeps the promises
pub promises_hold : (old new : PlainState) (reply : Option Reply) (one : Entry) → IsState old → reply ≡ reply_of old one → new ≡ step old one → Promises old new reply one
promises_hold old new reply one is told next =
    subst (λ (r : Option Reply). Promises old new r one) (sym told) (subst (λ (after : PlainState). Promises old after (reply_of old one) one) (sym next) (kept old one is))

-- a state of which the pool and what is counted are told is the next one
pub next_state_is : (old : PlainState) (pool : PlainPool) (tally : Tally) (one : Entry) → pool ≡ next_pool (next_number old) old.tally old.pool one → tally ≡ next_tally (next_number old) old.tally old.pool one
    → record { pool = pool; tally = tally; entries = next_number old } ≡ step old one
unfolding step
next_state_is old pool tally one pool_is tally_is =
    ap (λ (p : PlainPool). state_of p tally (next_number old)) pool_is ∙ ap (λ (t : Tally). state_of (next_pool (next_number old) old.tally old.pool one) t (next_number old)) tally_is
  where
    state_of : PlainPool → Tally → ℕ → PlainState
    state_of p t n = record { pool = p; tally = t; entries = n }

-- the promises where the reply, the pool and what is counted are told
pub promises_after : (old : PlainState) (pool : PlainPool) (tally : Tally) (reply : Option Reply) (one : Entry) → IsState old → reply ≡ reply_at (next_number old) old.tally old.pool one
    → pool ≡ next_pool (next_number old) old.tally old.pool one → tally ≡ next_tally (next_number old) old.tally old.pool one → Promises old (record { pool = pool; tally = tally; entries = next_number old }) reply one
unfolding reply_of
promises_after old pool tally reply one is told pool_is tally_is =
    promises_hold old (record { pool = pool; tally = tally; entries = next_number old }) reply one is told (next_state_is old pool tally one pool_is tally_is)
