-- What a line that is read spells.
use Rattle.std.proofs.Common.{◌≡◌, ℕ, ◌≤◌, Bool, true, false, ◌&&◌, nat_le, List, [], ◌∷◌, length, codes, Option, Some, None, Ok, Err, Result, refl, sym, ◌∙◌, ap, subst, ⊎_elim, inl, inr, ◌⊎◌, cond, arith}
use Rattle.std.specs.List.{list_all, join_with_byte}
use Rattle.std.specs.Result.{result_ok}
use Rattle.std.specs.Str.{bytes_eq}
use Rattle.std.proofs.lemmas.Bool.{and_parts, leb-true}
use Rattle.std.proofs.lemmas.Option.{cond_some}
use Rattle.std.proofs.lemmas.Slice.Eq.{bytes_eq-Decides}
use Rattle.std.proofs.lemmas.List.Splits.{join_with_byte-slice_split}
use Rattle.hex.specs.Hex.{decode_of}
use Rattle.hex.proofs.HexLemmas.{decode_of-ok}
use Rattle.zc_command.specs.Names.{HasNameBytes, is_name_byte}
use Rattle.zc_command.specs.declared.command.Command.TheVariants as command
use Rattle.zc_script.specs.declared.act.Said.{Said}
use Rattle.zc_script.specs.declared.act.Said.TheVariants.{Session, Does}
use Rattle.zc_script.specs.declared.forms.DatasetForm.{DatasetForm}
use Rattle.zc_script.specs.declared.forms.DatasetForm.TheVariants.{Mkds, Rmds, Mount}
use Rattle.zc_script.specs.declared.forms.FileForm.{FileForm}
use Rattle.zc_script.specs.declared.forms.FileForm.TheVariants.{Create, Remove, Stat}
use Rattle.zc_script.specs.declared.forms.Form.{Form}
use Rattle.zc_script.specs.declared.forms.Form.TheVariants as form
use Rattle.zc_script.specs.Pools.{is_pool_name}
use Rattle.zc_script.specs.Words.{◌>>=◌, pieces_between, one_of, two_of, three_of, four_of, number_of, session_of, byte_of, bytes_of, is_name_word, dataset_path, file_path}
use Rattle.zc_script.specs.Forms.{Spoken, InSession, Asks, form_of, dataset_command, file_command, session_spoken, dataset_spoken, file_spoken, write_spoken, fill_spoken, truncate_spoken, read_spoken, commit_spoken, spoken_of_form, spoken_of_words, spoken_of, act_in, said_in, said_of}
use Rattle.zc_script.specs.Spelling.{IsNumeral, AreHexDigits, IsDatasetPath, IsFilePath, SpellsSession, SpellsCommand, Spells}
use Rattle.zc_script.proofs.PieceLaws.{one_is, two_is, three_is, four_is}
use Rattle.zc_script.proofs.Numerals.{number_is}

-- two steps that gave a value
bind_some : {A B : Type 0} (o : Option A) (f : A → Option B) (y : B) → (o >>= f) ≡ Some y → (x : A) × (o ≡ Some x) × (f x ≡ Some y)
bind_some (Some x) f y h = (x, refl, h)
bind_some None f y h = cc h

-- two steps of which the second gives nothing
bind_none : {A B : Type 0} (o : Option A) (f : A → Option B) → ((x : A) → f x ≡ None) → (o >>= f) ≡ None
bind_none (Some x) f never = never x
bind_none None f never = refl

-- a line of one word says nothing
no_words : (f : Form) → spoken_of_form f [] ≡ None
unfolding session_spoken dataset_spoken file_spoken write_spoken fill_spoken truncate_spoken read_spoken commit_spoken
no_words form.Session = refl
no_words (form.OnDataset f) = refl
no_words (form.OnFile f) = refl
no_words form.Write = refl
no_words form.Fill = refl
no_words form.Truncate = refl
no_words form.Read = refl
no_words form.Commit = refl

spoken_of_one_word : (line : List ℕ) → pieces_between 32 line ≡ line ∷ [] → spoken_of line ≡ None
unfolding spoken_of
spoken_of_one_word line one =
    ap spoken_of_words one ∙ bind_none (form_of line) (λ f. spoken_of_form f []) (λ f. no_words f)

-- a line says what its words say in the form of its first word
pub spoken_of_parts : (line word : List ℕ) (words : List (List ℕ)) (f : Form) → pieces_between 32 line ≡ word ∷ words → form_of word ≡ Some f → spoken_of line ≡ spoken_of_form f words
unfolding spoken_of
spoken_of_parts line word words f pieces is_form = ap spoken_of_words pieces ∙ rw is_form

-- the same in a run
pub said_of_one_word : (pools : List (List ℕ)) (line : List ℕ) → pieces_between 32 line ≡ line ∷ [] → said_of pools line ≡ None
unfolding said_of
said_of_one_word pools line one = ap (said_in pools) (spoken_of_one_word line one)

pub said_of_parts : (pools : List (List ℕ)) (line word : List ℕ) (words : List (List ℕ)) (f : Form) → pieces_between 32 line ≡ word ∷ words → form_of word ≡ Some f → said_of pools line ≡ said_in pools (spoken_of_form f words)
unfolding said_of
said_of_parts pools line word words f pieces is_form = ap (said_in pools) (spoken_of_parts line word words f pieces is_form)

pub said_of_no_form : (pools : List (List ℕ)) (line word : List ℕ) (words : List (List ℕ)) → pieces_between 32 line ≡ word ∷ words → form_of word ≡ None → said_of pools line ≡ None
unfolding said_of spoken_of
said_of_no_form pools line word words pieces no_form = rw (pieces, no_form)

-- the first word of each form
abbrev pub dataset_word : DatasetForm → List ℕ
dataset_word Mkds = codes "mkds"
dataset_word Rmds = codes "rmds"
dataset_word Mount = codes "mount"

abbrev pub file_word : FileForm → List ℕ
file_word Create = codes "create"
file_word Remove = codes "remove"
file_word Stat = codes "stat"

abbrev pub form_word : Form → List ℕ
form_word form.Session = codes "session"
form_word (form.OnDataset f) = dataset_word f
form_word (form.OnFile f) = file_word f
form_word form.Write = codes "write"
form_word form.Fill = codes "fill"
form_word form.Truncate = codes "truncate"
form_word form.Read = codes "read"
form_word form.Commit = codes "commit"

-- the first row that passes, or one of the others
row_or_others : {A : Type 0} (test : Bool) (x y : A) (others : Option A) → cond test (Some x) others ≡ Some y → ((test ≡ true) × (x ≡ y)) ⊎ (others ≡ Some y)
row_or_others true x y others h = inl (refl, cc)
row_or_others false x y others h = inr h

-- a row of the table of forms
row : (word text : List ℕ) (f g : Form) → (bytes_eq word text ≡ true) × (f ≡ g) → text ≡ form_word f → word ≡ form_word g
row word text f g h is_row = (bytes_eq-Decides word text).0 h.0 ∙ is_row ∙ ap form_word h.1

-- a word has the form whose first word it is
pub form_is : (word : List ℕ) (f : Form) → form_of word ≡ Some f → word ≡ form_word f
unfolding form_of
form_is word f h =
    ⊎_elim (λ found. row word (codes "session") form.Session f found refl)
    (λ h1. ⊎_elim (λ found. row word (codes "mkds") (form.OnDataset Mkds) f found refl)
    (λ h2. ⊎_elim (λ found. row word (codes "rmds") (form.OnDataset Rmds) f found refl)
    (λ h3. ⊎_elim (λ found. row word (codes "mount") (form.OnDataset Mount) f found refl)
    (λ h4. ⊎_elim (λ found. row word (codes "create") (form.OnFile Create) f found refl)
    (λ h5. ⊎_elim (λ found. row word (codes "remove") (form.OnFile Remove) f found refl)
    (λ h6. ⊎_elim (λ found. row word (codes "stat") (form.OnFile Stat) f found refl)
    (λ h7. ⊎_elim (λ found. row word (codes "write") form.Write f found refl)
    (λ h8. ⊎_elim (λ found. row word (codes "fill") form.Fill f found refl)
    (λ h9. ⊎_elim (λ found. row word (codes "truncate") form.Truncate f found refl)
    (λ h10. ⊎_elim (λ found. row word (codes "read") form.Read f found refl)
    (λ h11. ⊎_elim (λ found. row word (codes "commit") form.Commit f found refl)
    (λ h12. cc)
    (row_or_others (bytes_eq word (codes "commit")) form.Commit f _ h11))
    (row_or_others (bytes_eq word (codes "read")) form.Read f _ h10))
    (row_or_others (bytes_eq word (codes "truncate")) form.Truncate f _ h9))
    (row_or_others (bytes_eq word (codes "fill")) form.Fill f _ h8))
    (row_or_others (bytes_eq word (codes "write")) form.Write f _ h7))
    (row_or_others (bytes_eq word (codes "stat")) (form.OnFile Stat) f _ h6))
    (row_or_others (bytes_eq word (codes "remove")) (form.OnFile Remove) f _ h5))
    (row_or_others (bytes_eq word (codes "create")) (form.OnFile Create) f _ h4))
    (row_or_others (bytes_eq word (codes "mount")) (form.OnDataset Mount) f _ h3))
    (row_or_others (bytes_eq word (codes "rmds")) (form.OnDataset Rmds) f _ h2))
    (row_or_others (bytes_eq word (codes "mkds")) (form.OnDataset Mkds) f _ h1))
    (row_or_others (bytes_eq word (codes "session")) form.Session f _ h)

-- a word that passes the test of names has name bytes
pub name_word_is : (text : List ℕ) → is_name_word text ≡ true → HasNameBytes text
name_word_is text h =
    let parts = and_parts (nat_le 1 (length text)) (list_all is_name_byte text) h in
    let some = leb-true 1 (length text) parts.0 in
    record { some_byte = omega arith; name_bytes = parts.1 }

-- a word that names a session is its numeral
session_is : (text : List ℕ) (session : ℕ) → session_of text ≡ Some session → IsNumeral text session × (session ≤ 15)
unfolding session_of
session_is text session h =
    let number = bind_some (number_of text) _ session h in
    let found = cond_some (nat_le number.0 15) number.0 session number.2 in
    let same = found.1 in
    (number_is text session (number.1 ∙ ap Some same), leb-true session 15 (rw same at found.0))

-- a word that spells a byte is its numeral
byte_is : (text : List ℕ) (byte : ℕ) → byte_of text ≡ Some byte → IsNumeral text byte × (byte ≤ 255)
unfolding byte_of
byte_is text byte h =
    let number = bind_some (number_of text) _ byte h in
    let found = cond_some (nat_le number.0 255) number.0 byte number.2 in
    let same = found.1 in
    (number_is text byte (number.1 ∙ ap Some same), leb-true byte 255 (rw same at found.0))

-- a word that spells bytes is two digits for each
pub bytes_are : (text bytes : List ℕ) → bytes_of text ≡ Some bytes → AreHexDigits text bytes
unfolding bytes_of
bytes_are text bytes h =
    let found = digits_decoded (nat_le 1 (length text)) (decode_of text) bytes h in
    let ok = decode_of-ok text bytes found.1 in
    let some = leb-true 1 (length text) found.0 in
    let twice = ok.2 in
    record { some_byte = omega arith; digits = found.1 }
  where
    digits_decoded : {E : Type 0} (test : Bool) (r : Result (List ℕ) E) (bytes : List ℕ) → cond test (result_ok r) None ≡ Some bytes → (test ≡ true) × (r ≡ Ok bytes)
    digits_decoded true (Ok x) bytes h = (refl, cc)
    digits_decoded true (Err e) bytes h = cc h
    digits_decoded false r bytes h = cc h

-- the pieces of a text, joined, are the text
joined : (separator : ℕ) (text : List ℕ) (pieces : List (List ℕ)) → pieces_between separator text ≡ pieces → text ≡ join_with_byte separator pieces
joined separator text pieces h = sym (join_with_byte-slice_split separator text) ∙ ap (join_with_byte separator) h

-- a text that is read as a dataset's path is one
pub dataset_path_is : (text : List ℕ) (path : List ℕ × List ℕ) → dataset_path text ≡ Some path → IsDatasetPath text path.0 path.1
unfolding dataset_path
dataset_path_is text path h =
    let parts = bind_some (two_of (pieces_between 47 text)) _ path h in
    let names = cond_some (is_pool_name parts.0.0 && is_name_word parts.0.1) parts.0 path parts.2 in
    let both = and_parts (is_pool_name parts.0.0) (is_name_word parts.0.1) names.0 in
    let pieces = two_is (pieces_between 47 text) parts.0 parts.1 in
    subst (λ (p : List ℕ × List ℕ). IsDatasetPath text p.0 p.1) names.1
    (record { pool_is = both.0; dataset_is = name_word_is parts.0.1 both.1; spelled = joined 47 text _ pieces })

-- a text that is read as a file's path is one
pub file_path_is : (text : List ℕ) (path : List ℕ × List ℕ × List ℕ) → file_path text ≡ Some path → IsFilePath text path.0 path.1 path.2
unfolding file_path
file_path_is text path h =
    let parts = bind_some (three_of (pieces_between 47 text)) _ path h in
    let names = cond_some (is_pool_name parts.0.0 && (is_name_word parts.0.1 && is_name_word parts.0.2)) parts.0 path parts.2 in
    let first = and_parts (is_pool_name parts.0.0) (is_name_word parts.0.1 && is_name_word parts.0.2) names.0 in
    let both = and_parts (is_name_word parts.0.1) (is_name_word parts.0.2) first.1 in
    let pieces = three_is (pieces_between 47 text) parts.0 parts.1 in
    subst (λ (p : List ℕ × List ℕ × List ℕ). IsFilePath text p.0 p.1 p.2) names.1
    (record {
      pool_is = first.0;
      dataset_is = name_word_is parts.0.1 both.0;
      file_is = name_word_is parts.0.2 both.1;
      spelled = joined 47 text _ pieces;
    })

-- the line spells what its words say
abbrev pub SpellsSpoken : List ℕ → Spoken → Type 0
SpellsSpoken line (InSession session) = SpellsSession line session
SpellsSpoken line (Asks pool command) = SpellsCommand line pool command

-- a line that is read in a form spells what it says
session_said_is : (line : List ℕ) (words : List (List ℕ)) (spoken : Spoken) → line ≡ join_with_byte 32 (codes "session" ∷ words) → session_spoken words ≡ Some spoken → SpellsSpoken line spoken
unfolding session_spoken
session_said_is line words spoken text h =
    let word = bind_some (one_of words) _ spoken h in
    let session = bind_some (session_of word.0) _ spoken word.2 in
    let is_spoken : InSession session.0 ≡ spoken = cc session.2 in
    let is_words = one_is words word.0 word.1 in
    let number = session_is word.0 session.0 session.1 in
    subst (λ (s : Spoken). SpellsSpoken line s) is_spoken
    (record { number = word.0; number_is = number.0; few = number.1; spelled = rw is_words at text })

-- a dataset's path after the word of a form
of_dataset_form : (f : DatasetForm) (line pool dataset path : List ℕ) → IsDatasetPath path pool dataset → line ≡ join_with_byte 32 (dataset_word f ∷ path ∷ []) → SpellsCommand line pool (dataset_command f dataset)
of_dataset_form Mkds line pool dataset path path_is text = record { path = path; path_is = path_is; spelled = text }
of_dataset_form Rmds line pool dataset path path_is text = record { path = path; path_is = path_is; spelled = text }
of_dataset_form Mount line pool dataset path path_is text = record { path = path; path_is = path_is; spelled = text }

dataset_is : (f : DatasetForm) (line : List ℕ) (words : List (List ℕ)) (spoken : Spoken) → line ≡ join_with_byte 32 (dataset_word f ∷ words) → dataset_spoken f words ≡ Some spoken → SpellsSpoken line spoken
unfolding dataset_spoken
dataset_is f line words spoken text h =
    let word = bind_some (one_of words) _ spoken h in
    let path = bind_some (dataset_path word.0) _ spoken word.2 in
    let is_spoken : Asks path.0.0 (dataset_command f path.0.1) ≡ spoken = cc path.2 in
    let is_words = one_is words word.0 word.1 in
    subst (λ (s : Spoken). SpellsSpoken line s) is_spoken
    (of_dataset_form f line path.0.0 path.0.1 word.0 (dataset_path_is word.0 path.0 path.1) (rw is_words at text))

-- a file's path after the word of a form
of_file_form : (f : FileForm) (line pool dataset file path : List ℕ) → IsFilePath path pool dataset file → line ≡ join_with_byte 32 (file_word f ∷ path ∷ []) → SpellsCommand line pool (file_command f dataset file)
of_file_form Create line pool dataset file path path_is text = record { path = path; path_is = path_is; spelled = text }
of_file_form Remove line pool dataset file path path_is text = record { path = path; path_is = path_is; spelled = text }
of_file_form Stat line pool dataset file path path_is text = record { path = path; path_is = path_is; spelled = text }

file_is : (f : FileForm) (line : List ℕ) (words : List (List ℕ)) (spoken : Spoken) → line ≡ join_with_byte 32 (file_word f ∷ words) → file_spoken f words ≡ Some spoken → SpellsSpoken line spoken
unfolding file_spoken
file_is f line words spoken text h =
    let word = bind_some (one_of words) _ spoken h in
    let path = bind_some (file_path word.0) _ spoken word.2 in
    let is_spoken : Asks path.0.0 (file_command f path.0.1 path.0.2) ≡ spoken = cc path.2 in
    let is_words = one_is words word.0 word.1 in
    subst (λ (s : Spoken). SpellsSpoken line s) is_spoken
    (of_file_form f line path.0.0 path.0.1 path.0.2 word.0 (file_path_is word.0 path.0 path.1) (rw is_words at text))

write_is : (line : List ℕ) (words : List (List ℕ)) (spoken : Spoken) → line ≡ join_with_byte 32 (codes "write" ∷ words) → write_spoken words ≡ Some spoken → SpellsSpoken line spoken
unfolding write_spoken
write_is line words spoken text h =
    let three = bind_some (three_of words) _ spoken h in
    let path = bind_some (file_path three.0.0) _ spoken three.2 in
    let from = bind_some (number_of three.0.1) _ spoken path.2 in
    let bytes = bind_some (bytes_of three.0.2) _ spoken from.2 in
    let is_spoken : Asks path.0.0 (command.Write path.0.1 path.0.2 from.0 bytes.0) ≡ spoken = cc bytes.2 in
    let is_words = three_is words three.0 three.1 in
    subst (λ (s : Spoken). SpellsSpoken line s) is_spoken
    (record {
      path = three.0.0;
      path_is = file_path_is three.0.0 path.0 path.1;
      from = three.0.1;
      from_is = number_is three.0.1 from.0 from.1;
      digits = three.0.2;
      digits_are = bytes_are three.0.2 bytes.0 bytes.1;
      spelled = rw is_words at text;
    })

fill_is : (line : List ℕ) (words : List (List ℕ)) (spoken : Spoken) → line ≡ join_with_byte 32 (codes "fill" ∷ words) → fill_spoken words ≡ Some spoken → SpellsSpoken line spoken
unfolding fill_spoken
fill_is line words spoken text h =
    let four = bind_some (four_of words) _ spoken h in
    let path = bind_some (file_path four.0.0) _ spoken four.2 in
    let from = bind_some (number_of four.0.1) _ spoken path.2 in
    let count = bind_some (number_of four.0.2) _ spoken from.2 in
    let byte = bind_some (byte_of four.0.3) _ spoken count.2 in
    let is_spoken : Asks path.0.0 (command.Fill path.0.1 path.0.2 from.0 count.0 byte.0) ≡ spoken = cc byte.2 in
    let is_words = four_is words four.0 four.1 in
    let value = byte_is four.0.3 byte.0 byte.1 in
    subst (λ (s : Spoken). SpellsSpoken line s) is_spoken
    (record {
      path = four.0.0;
      path_is = file_path_is four.0.0 path.0 path.1;
      from = four.0.1;
      from_is = number_is four.0.1 from.0 from.1;
      count = four.0.2;
      count_is = number_is four.0.2 count.0 count.1;
      value = four.0.3;
      value_is = value.0;
      is_byte = value.1;
      spelled = rw is_words at text;
    })

truncate_is : (line : List ℕ) (words : List (List ℕ)) (spoken : Spoken) → line ≡ join_with_byte 32 (codes "truncate" ∷ words) → truncate_spoken words ≡ Some spoken → SpellsSpoken line spoken
unfolding truncate_spoken
truncate_is line words spoken text h =
    let two = bind_some (two_of words) _ spoken h in
    let path = bind_some (file_path two.0.0) _ spoken two.2 in
    let size = bind_some (number_of two.0.1) _ spoken path.2 in
    let is_spoken : Asks path.0.0 (command.Truncate path.0.1 path.0.2 size.0) ≡ spoken = cc size.2 in
    let is_words = two_is words two.0 two.1 in
    subst (λ (s : Spoken). SpellsSpoken line s) is_spoken
    (record {
      path = two.0.0;
      path_is = file_path_is two.0.0 path.0 path.1;
      number = two.0.1;
      number_is = number_is two.0.1 size.0 size.1;
      spelled = rw is_words at text;
    })

read_is : (line : List ℕ) (words : List (List ℕ)) (spoken : Spoken) → line ≡ join_with_byte 32 (codes "read" ∷ words) → read_spoken words ≡ Some spoken → SpellsSpoken line spoken
unfolding read_spoken
read_is line words spoken text h =
    let three = bind_some (three_of words) _ spoken h in
    let path = bind_some (file_path three.0.0) _ spoken three.2 in
    let from = bind_some (number_of three.0.1) _ spoken path.2 in
    let count = bind_some (number_of three.0.2) _ spoken from.2 in
    let is_spoken : Asks path.0.0 (command.Read path.0.1 path.0.2 from.0 count.0) ≡ spoken = cc count.2 in
    let is_words = three_is words three.0 three.1 in
    subst (λ (s : Spoken). SpellsSpoken line s) is_spoken
    (record {
      path = three.0.0;
      path_is = file_path_is three.0.0 path.0 path.1;
      from = three.0.1;
      from_is = number_is three.0.1 from.0 from.1;
      count = three.0.2;
      count_is = number_is three.0.2 count.0 count.1;
      spelled = rw is_words at text;
    })

commit_is : (line : List ℕ) (words : List (List ℕ)) (spoken : Spoken) → line ≡ join_with_byte 32 (codes "commit" ∷ words) → commit_spoken words ≡ Some spoken → SpellsSpoken line spoken
unfolding commit_spoken
commit_is line words spoken text h =
    let word = bind_some (one_of words) _ spoken h in
    let pool = cond_some (is_pool_name word.0) (Asks word.0 command.Commit) spoken word.2 in
    let is_words = one_is words word.0 word.1 in
    subst (λ (s : Spoken). SpellsSpoken line s) pool.1
    (record { pool_is = pool.0; spelled = rw is_words at text })

of_form_is : (line : List ℕ) (words : List (List ℕ)) (spoken : Spoken) (f : Form) → line ≡ join_with_byte 32 (form_word f ∷ words) → spoken_of_form f words ≡ Some spoken → SpellsSpoken line spoken
of_form_is line words spoken form.Session text h = session_said_is line words spoken text h
of_form_is line words spoken (form.OnDataset f) text h = dataset_is f line words spoken text h
of_form_is line words spoken (form.OnFile f) text h = file_is f line words spoken text h
of_form_is line words spoken form.Write text h = write_is line words spoken text h
of_form_is line words spoken form.Fill text h = fill_is line words spoken text h
of_form_is line words spoken form.Truncate text h = truncate_is line words spoken text h
of_form_is line words spoken form.Read text h = read_is line words spoken text h
of_form_is line words spoken form.Commit text h = commit_is line words spoken text h

of_words_is : (line : List ℕ) (words : List (List ℕ)) (spoken : Spoken) → line ≡ join_with_byte 32 words → spoken_of_words words ≡ Some spoken → SpellsSpoken line spoken
of_words_is line [] spoken text h = cc h
of_words_is line (word ∷ words) spoken text h =
    let found = bind_some (form_of word) _ spoken h in
    of_form_is line words spoken found.0 (text ∙ ap (λ (w : List ℕ). join_with_byte 32 (w ∷ words)) (form_is word found.0 found.1)) found.2

-- What the words of a line say, the line spells.
pub spoken_is_spelled : (line : List ℕ) (spoken : Spoken) → spoken_of line ≡ Some spoken → SpellsSpoken line spoken
unfolding spoken_of
spoken_is_spelled line spoken h = of_words_is line (pieces_between 32 line) spoken (joined 32 line _ refl) h

-- what is said in a run comes of what the words say
said_from : (pools : List (List ℕ)) (line : List ℕ) (o : Option Spoken) (said : Said) → ((spoken : Spoken) → o ≡ Some spoken → SpellsSpoken line spoken) → said_in pools o ≡ Some said → Spells pools line said
said_from pools line None said are h = cc h
said_from pools line (Some (InSession session)) said are h =
    let is_said : Session session ≡ said = cc h in
    subst (λ (s : Said). Spells pools line s) is_said (are (InSession session) refl)
said_from pools line (Some (Asks pool command)) said are h =
    let is_said : Does (act_in pools pool command) ≡ said = cc h in
    subst (λ (s : Said). Spells pools line s) is_said
    (record { pool = pool; command = command; spelled = are (Asks pool command) refl; act_is = refl })

-- What a line is read as, it spells.
pub read_is_spelled : (pools : List (List ℕ)) (line : List ℕ) (said : Said) → said_of pools line ≡ Some said → Spells pools line said
unfolding said_of
read_is_spelled pools line said h = said_from pools line (spoken_of line) said (spoken_is_spelled line) h
