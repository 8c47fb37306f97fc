-- A line that spells something is read as that, and each line that is printed spells what it was printed for.
use Rattle.std.proofs.Common.{◌≡◌, ℕ, ◌≤◌, ◌^◌, Bool, true, false, ◌==◌, ◌&&◌, ◌||◌, nat_le, List, [], ◌∷◌, ◌++◌, length, codes, Some, IsTrue, refl, ◌∙◌, ap, arith}
use Rattle.std.specs.List.{list_all}
use Rattle.std.specs.Fmt.{decimal}
use Rattle.std.proofs.lemmas.Bool.{and_parts, and_from, or_left, le-leb}
use Rattle.std.proofs.lemmas.Bool.Decides.{nat_tests}
use Rattle.std.proofs.lemmas.List.Sums.{list_all-from_AllPass}
use Rattle.hex.specs.Hex.{encode_lower, is_hex_digit}
use Rattle.hex.proofs.HexLemmas.{decode_of-ok, decode_of-encode_lower}
use Rattle.zc_num.specs.Words.{lacks}
use Rattle.zc_num.proofs.Pieces.{pieces_first}
use Rattle.zc_command.specs.Names.{HasNameBytes, is_name_byte, is_lower, is_digit}
use Rattle.zc_command.specs.declared.command.Command.{Command}
use Rattle.zc_command.specs.declared.command.Command.TheVariants.{Mkds, Rmds, Mount, Create, Remove, Write, Fill, Truncate, Read, Stat, Commit}
use Rattle.zc_script.specs.declared.act.Act.{Act}
use Rattle.zc_script.specs.declared.act.Said.{Said}
use Rattle.zc_script.specs.declared.act.Said.TheVariants.{Session, Does}
use Rattle.zc_script.specs.declared.forms.DatasetForm.{DatasetForm}
use Rattle.zc_script.specs.declared.forms.DatasetForm.TheVariants as dataset_form
use Rattle.zc_script.specs.declared.forms.FileForm.{FileForm}
use Rattle.zc_script.specs.declared.forms.FileForm.TheVariants as file_form
use Rattle.zc_script.specs.declared.forms.Form.{Form}
use Rattle.zc_script.specs.declared.forms.Form.TheVariants as form
use Rattle.zc_script.specs.Pools.{is_pool_name, is_pool_byte}
use Rattle.zc_script.specs.Words.{pieces_between, is_line_byte, session_of, byte_of, bytes_of, is_name_word, dataset_path, file_path}
use Rattle.zc_script.specs.Forms.{InSession, Asks, form_of, dataset_command, file_command, session_spoken, dataset_spoken, file_spoken, write_spoken, fill_spoken, truncate_spoken, read_spoken, commit_spoken, spoken_of_form, spoken_of, act_in, said_in, said_of}
use Rattle.zc_script.specs.Spelling.{IsNumeral, AreHexDigits, IsDatasetPath, IsFilePath, SpellsSession, SpellsWrite, SpellsFill, SpellsTruncate, SpellsRead, SpellsCommit, SpellsCommand, Spells, HasLine, command_line, session_line, dataset_text, file_text}
use Rattle.zc_script.specs.Lines.{is_ignored, texts_of}
use Rattle.zc_script.proofs.PieceLaws.{pieces_lacking, pieces_before}
use Rattle.zc_script.proofs.LineBytes.{lacks_from_all, all_weaker, all_append}
use Rattle.zc_script.proofs.Numerals.{number_read, digits_pass, decimal_is_numeral}
use Rattle.zc_script.proofs.ReadLaws.{spoken_of_parts, dataset_word, file_word, form_word, read_is_spelled}

-- ---- the bytes of words

-- what a word consists of
abbrev is_word_byte : ℕ → Bool
is_word_byte byte = nat_le 33 byte && nat_le byte 126

-- each byte that passes the one test passes the other
abbrev Weaker : (ℕ → Bool) → (ℕ → Bool) → Type 0
Weaker test weaker = (byte : ℕ) → test byte ≡ true → weaker byte ≡ true

pool_byte_in_word : Weaker is_pool_byte is_word_byte
pool_byte_in_word byte h = grind (arith, nat_tests)

name_byte_in_word : Weaker is_name_byte is_word_byte
name_byte_in_word byte h = grind (arith, nat_tests)

digit_in_word : Weaker is_digit is_word_byte
digit_in_word byte h = grind (arith, nat_tests)

hex_digit_in_word : Weaker is_hex_digit is_word_byte
hex_digit_in_word byte h = grind (arith, nat_tests)

word_byte_in_line : Weaker is_word_byte is_line_byte
word_byte_in_line byte h = grind (arith, nat_tests)

-- a pool's name has a pool's bytes
pool_name_bytes : (pool : List ℕ) → is_pool_name pool ≡ true → list_all is_pool_byte pool ≡ true
pool_name_bytes [] h = refl
pool_name_bytes (byte ∷ bytes) h =
    let first = and_parts (is_lower byte) (nat_le (length bytes) 31 && list_all is_pool_byte bytes) h in
    let rest = and_parts (nat_le (length bytes) 31) (list_all is_pool_byte bytes) first.1 in
    and_from (is_pool_byte byte) (list_all is_pool_byte bytes) (or_left (is_lower byte) (is_digit byte || byte == 95) first.0) rest.1

-- no pool's name and no other name has a slash
lacks_slash : (test : ℕ → Bool) (bytes : List ℕ) → test 47 ≡ false → list_all test bytes ≡ true → lacks 47 bytes ≡ true
lacks_slash test bytes fails all = lacks_from_all test 47 bytes fails all

-- no word has a space
lacks_space : (word : List ℕ) → list_all is_word_byte word ≡ true → lacks 32 word ≡ true
lacks_space word all = lacks_from_all is_word_byte 32 word refl all

pool_word : (pool : List ℕ) → IsTrue (is_pool_name pool) → list_all is_word_byte pool ≡ true
pool_word pool h = all_weaker is_pool_byte is_word_byte pool_byte_in_word pool (pool_name_bytes pool h)

name_word : (name : List ℕ) → HasNameBytes name → list_all is_word_byte name ≡ true
name_word name h = all_weaker is_name_byte is_word_byte name_byte_in_word name h.name_bytes

numeral_word : (text : List ℕ) (number : ℕ) → IsNumeral text number → list_all is_word_byte text ≡ true
numeral_word text number h = all_weaker is_digit is_word_byte digit_in_word text (digits_pass text h.digits)

hex_word : (text bytes : List ℕ) → AreHexDigits text bytes → list_all is_word_byte text ≡ true
hex_word text bytes h =
    let ok = decode_of-ok text bytes h.digits in
    all_weaker is_hex_digit is_word_byte hex_digit_in_word text (list_all-from_AllPass is_hex_digit text ok.1)

dataset_path_word : (text pool dataset : List ℕ) → IsDatasetPath text pool dataset → list_all is_word_byte text ≡ true
dataset_path_word text pool dataset h =
    ap (list_all is_word_byte) h.spelled ∙ all_append is_word_byte pool (47 ∷ dataset) (pool_word pool h.pool_is) (name_word dataset h.dataset_is)

file_path_word : (text pool dataset file : List ℕ) → IsFilePath text pool dataset file → list_all is_word_byte text ≡ true
file_path_word text pool dataset file h =
    let behind = all_append is_word_byte dataset (47 ∷ file) (name_word dataset h.dataset_is) (name_word file h.file_is) in
    ap (list_all is_word_byte) h.spelled ∙ all_append is_word_byte pool (47 ∷ (dataset ++ 47 ∷ file)) (pool_word pool h.pool_is) behind

-- ---- paths and words are read

name_word_read : (text : List ℕ) → HasNameBytes text → is_name_word text ≡ true
name_word_read text h =
    let some = h.some_byte in
    let one : 1 ≤ length text = omega arith in
    and_from (nat_le 1 (length text)) (list_all is_name_byte text) (le-leb 1 (length text) one) h.name_bytes

-- a dataset's path is read as that
pub dataset_path_read : (text pool dataset : List ℕ) → IsDatasetPath text pool dataset → dataset_path text ≡ Some (pool, dataset)
unfolding dataset_path
dataset_path_read text pool dataset h =
    let pool_lacks = lacks_slash is_pool_byte pool refl (pool_name_bytes pool h.pool_is) in
    let name_lacks = lacks_slash is_name_byte dataset refl h.dataset_is.name_bytes in
    let pieces : pieces_between 47 text ≡ pool ∷ dataset ∷ [] =
    ap (pieces_between 47) h.spelled ∙ pieces_before 47 pool dataset pool_lacks ∙ ap (λ (p : List (List ℕ)). pool ∷ p) (pieces_lacking 47 dataset name_lacks) in
    let named = name_word_read dataset h.dataset_is in
    rw (pieces, h.pool_is, named)

-- a file's path is read as that
pub file_path_read : (text pool dataset file : List ℕ) → IsFilePath text pool dataset file → file_path text ≡ Some (pool, dataset, file)
unfolding file_path
file_path_read text pool dataset file h =
    let pool_lacks = lacks_slash is_pool_byte pool refl (pool_name_bytes pool h.pool_is) in
    let dataset_lacks = lacks_slash is_name_byte dataset refl h.dataset_is.name_bytes in
    let file_lacks = lacks_slash is_name_byte file refl h.file_is.name_bytes in
    let behind : pieces_between 47 (dataset ++ 47 ∷ file) ≡ dataset ∷ file ∷ [] =
    pieces_before 47 dataset file dataset_lacks ∙ ap (λ (p : List (List ℕ)). dataset ∷ p) (pieces_lacking 47 file file_lacks) in
    let pieces : pieces_between 47 text ≡ pool ∷ dataset ∷ file ∷ [] =
    ap (pieces_between 47) h.spelled ∙ pieces_before 47 pool (dataset ++ 47 ∷ file) pool_lacks ∙ ap (λ (p : List (List ℕ)). pool ∷ p) behind in
    let dataset_named = name_word_read dataset h.dataset_is in
    let file_named = name_word_read file h.file_is in
    rw (pieces, h.pool_is, dataset_named, file_named)

-- a numeral of a session names it
session_read : (text : List ℕ) (session : ℕ) → IsNumeral text session → session ≤ 15 → session_of text ≡ Some session
unfolding session_of
session_read text session h few =
    let test = le-leb session 15 few in
    rw (number_read text session h, test)

-- a numeral of a byte spells it
byte_read : (text : List ℕ) (byte : ℕ) → IsNumeral text byte → byte ≤ 255 → byte_of text ≡ Some byte
unfolding byte_of
byte_read text byte h few =
    let test = le-leb byte 255 few in
    rw (number_read text byte h, test)

-- hexadecimal digits are read as their bytes
pub bytes_read : (text bytes : List ℕ) → AreHexDigits text bytes → bytes_of text ≡ Some bytes
unfolding bytes_of
bytes_read text bytes h =
    let ok = decode_of-ok text bytes h.digits in
    let twice = ok.2 in
    let some = h.some_byte in
    let one : 1 ≤ length text = omega arith in
    let long = le-leb 1 (length text) one in
    rw (long, h.digits)

-- ---- lines are read

form_read : (f : Form) → form_of (form_word f) ≡ Some f
unfolding form_of
form_read form.Session = refl
form_read (form.OnDataset dataset_form.Mkds) = refl
form_read (form.OnDataset dataset_form.Rmds) = refl
form_read (form.OnDataset dataset_form.Mount) = refl
form_read (form.OnFile file_form.Create) = refl
form_read (form.OnFile file_form.Remove) = refl
form_read (form.OnFile file_form.Stat) = refl
form_read form.Write = refl
form_read form.Fill = refl
form_read form.Truncate = refl
form_read form.Read = refl
form_read form.Commit = refl

form_word_bytes : (f : Form) → list_all is_word_byte (form_word f) ≡ true
form_word_bytes form.Session = refl
form_word_bytes (form.OnDataset dataset_form.Mkds) = refl
form_word_bytes (form.OnDataset dataset_form.Rmds) = refl
form_word_bytes (form.OnDataset dataset_form.Mount) = refl
form_word_bytes (form.OnFile file_form.Create) = refl
form_word_bytes (form.OnFile file_form.Remove) = refl
form_word_bytes (form.OnFile file_form.Stat) = refl
form_word_bytes form.Write = refl
form_word_bytes form.Fill = refl
form_word_bytes form.Truncate = refl
form_word_bytes form.Read = refl
form_word_bytes form.Commit = refl

-- the words of a word and what stands after it
words_after : (word rest : List ℕ) (words : List (List ℕ)) → list_all is_word_byte word ≡ true → pieces_between 32 rest ≡ words → pieces_between 32 (word ++ 32 ∷ rest) ≡ word ∷ words
words_after word rest words in_word behind =
    pieces_before 32 word rest (lacks_space word in_word) ∙ ap (λ (p : List (List ℕ)). word ∷ p) behind

one_word : (word : List ℕ) → list_all is_word_byte word ≡ true → pieces_between 32 word ≡ word ∷ []
one_word word in_word = pieces_lacking 32 word (lacks_space word in_word)

-- a line of a form with these words after
line_of_form : (f : Form) (line rest : List ℕ) (words : List (List ℕ)) → line ≡ form_word f ++ 32 ∷ rest → pieces_between 32 rest ≡ words → spoken_of line ≡ spoken_of_form f words
line_of_form f line rest words spelled behind =
    spoken_of_parts line (form_word f) words f
    (ap (pieces_between 32) spelled ∙ words_after (form_word f) rest words (form_word_bytes f) behind) (form_read f)

session_line_read : (line : List ℕ) (session : ℕ) → SpellsSession line session → spoken_of line ≡ Some (InSession session)
unfolding session_spoken
session_line_read line session s =
    line_of_form form.Session line s.number (s.number ∷ []) s.spelled (one_word s.number (numeral_word s.number session s.number_is))
    ∙ rw (session_read s.number session s.number_is s.few)

dataset_read : (f : DatasetForm) (line path pool dataset : List ℕ) → IsDatasetPath path pool dataset → line ≡ dataset_word f ++ 32 ∷ path → spoken_of line ≡ Some (Asks pool (dataset_command f dataset))
unfolding dataset_spoken
dataset_read f line path pool dataset path_is spelled =
    line_of_form (form.OnDataset f) line path (path ∷ []) spelled (one_word path (dataset_path_word path pool dataset path_is))
    ∙ rw (dataset_path_read path pool dataset path_is)

file_read : (f : FileForm) (line path pool dataset file : List ℕ) → IsFilePath path pool dataset file → line ≡ file_word f ++ 32 ∷ path → spoken_of line ≡ Some (Asks pool (file_command f dataset file))
unfolding file_spoken
file_read f line path pool dataset file path_is spelled =
    line_of_form (form.OnFile f) line path (path ∷ []) spelled (one_word path (file_path_word path pool dataset file path_is))
    ∙ rw (file_path_read path pool dataset file path_is)

write_read : (line pool dataset file : List ℕ) (offset : ℕ) (bytes : List ℕ) → SpellsWrite line pool dataset file offset bytes → spoken_of line ≡ Some (Asks pool (Write dataset file offset bytes))
unfolding write_spoken
write_read line pool dataset file offset bytes s =
    let last = words_after s.from s.digits (s.digits ∷ []) (numeral_word s.from offset s.from_is) (one_word s.digits (hex_word s.digits bytes s.digits_are)) in
    let all = words_after s.path (s.from ++ 32 ∷ s.digits) (s.from ∷ s.digits ∷ []) (file_path_word s.path pool dataset file s.path_is) last in
    line_of_form form.Write line (s.path ++ 32 ∷ (s.from ++ 32 ∷ s.digits)) (s.path ∷ s.from ∷ s.digits ∷ []) s.spelled all
    ∙ rw (file_path_read s.path pool dataset file s.path_is, number_read s.from offset s.from_is, bytes_read s.digits bytes s.digits_are)

fill_read : (line pool dataset file : List ℕ) (offset len byte : ℕ) → SpellsFill line pool dataset file offset len byte → spoken_of line ≡ Some (Asks pool (Fill dataset file offset len byte))
unfolding fill_spoken
fill_read line pool dataset file offset len byte s =
    let last = words_after s.count s.value (s.value ∷ []) (numeral_word s.count len s.count_is) (one_word s.value (numeral_word s.value byte s.value_is)) in
    let next = words_after s.from (s.count ++ 32 ∷ s.value) (s.count ∷ s.value ∷ []) (numeral_word s.from offset s.from_is) last in
    let all = words_after s.path (s.from ++ 32 ∷ (s.count ++ 32 ∷ s.value)) (s.from ∷ s.count ∷ s.value ∷ []) (file_path_word s.path pool dataset file s.path_is) next in
    line_of_form form.Fill line (s.path ++ 32 ∷ (s.from ++ 32 ∷ (s.count ++ 32 ∷ s.value))) (s.path ∷ s.from ∷ s.count ∷ s.value ∷ []) s.spelled all
    ∙ rw (file_path_read s.path pool dataset file s.path_is, number_read s.from offset s.from_is, number_read s.count len s.count_is, byte_read s.value byte s.value_is s.is_byte)

truncate_read : (line pool dataset file : List ℕ) (size : ℕ) → SpellsTruncate line pool dataset file size → spoken_of line ≡ Some (Asks pool (Truncate dataset file size))
unfolding truncate_spoken
truncate_read line pool dataset file size s =
    let all = words_after s.path s.number (s.number ∷ []) (file_path_word s.path pool dataset file s.path_is) (one_word s.number (numeral_word s.number size s.number_is)) in
    line_of_form form.Truncate line (s.path ++ 32 ∷ s.number) (s.path ∷ s.number ∷ []) s.spelled all
    ∙ rw (file_path_read s.path pool dataset file s.path_is, number_read s.number size s.number_is)

read_read : (line pool dataset file : List ℕ) (offset len : ℕ) → SpellsRead line pool dataset file offset len → spoken_of line ≡ Some (Asks pool (Read dataset file offset len))
unfolding read_spoken
read_read line pool dataset file offset len s =
    let last = words_after s.from s.count (s.count ∷ []) (numeral_word s.from offset s.from_is) (one_word s.count (numeral_word s.count len s.count_is)) in
    let all = words_after s.path (s.from ++ 32 ∷ s.count) (s.from ∷ s.count ∷ []) (file_path_word s.path pool dataset file s.path_is) last in
    line_of_form form.Read line (s.path ++ 32 ∷ (s.from ++ 32 ∷ s.count)) (s.path ∷ s.from ∷ s.count ∷ []) s.spelled all
    ∙ rw (file_path_read s.path pool dataset file s.path_is, number_read s.from offset s.from_is, number_read s.count len s.count_is)

commit_read : (line pool : List ℕ) → SpellsCommit line pool → spoken_of line ≡ Some (Asks pool Commit)
unfolding commit_spoken
commit_read line pool s =
    line_of_form form.Commit line pool (pool ∷ []) s.spelled (one_word pool (pool_word pool s.pool_is))
    ∙ rw s.pool_is

-- a line that spells a command is read as that
pub command_is_read : (line pool : List ℕ) (command : Command) → SpellsCommand line pool command → spoken_of line ≡ Some (Asks pool command)
command_is_read line pool (Mkds dataset) s = dataset_read dataset_form.Mkds line s.path pool dataset s.path_is s.spelled
command_is_read line pool (Rmds dataset) s = dataset_read dataset_form.Rmds line s.path pool dataset s.path_is s.spelled
command_is_read line pool (Mount dataset) s = dataset_read dataset_form.Mount line s.path pool dataset s.path_is s.spelled
command_is_read line pool (Create dataset file) s = file_read file_form.Create line s.path pool dataset file s.path_is s.spelled
command_is_read line pool (Remove dataset file) s = file_read file_form.Remove line s.path pool dataset file s.path_is s.spelled
command_is_read line pool (Write dataset file offset bytes) s = write_read line pool dataset file offset bytes s
command_is_read line pool (Fill dataset file offset len byte) s = fill_read line pool dataset file offset len byte s
command_is_read line pool (Truncate dataset file size) s = truncate_read line pool dataset file size s
command_is_read line pool (Read dataset file offset len) s = read_read line pool dataset file offset len s
command_is_read line pool (Stat dataset file) s = file_read file_form.Stat line s.path pool dataset file s.path_is s.spelled
command_is_read line pool Commit s = commit_read line pool s

-- the same in a run
said_of_command : (pools : List (List ℕ)) (line pool : List ℕ) (command : Command) → SpellsCommand line pool command → said_of pools line ≡ Some (Does (act_in pools pool command))
unfolding said_of
said_of_command pools line pool command s = ap (said_in pools) (command_is_read line pool command s)

said_of_session : (pools : List (List ℕ)) (line : List ℕ) (session : ℕ) → SpellsSession line session → said_of pools line ≡ Some (Session session)
unfolding said_of
said_of_session pools line session s = ap (said_in pools) (session_line_read line session s)

-- What a line spells, it is read as.
pub spelled_is_read : (pools : List (List ℕ)) (line : List ℕ) (said : Said) → Spells pools line said → said_of pools line ≡ Some said
spelled_is_read pools line (Session session) s = said_of_session pools line session s
spelled_is_read pools line (Does act) s =
    said_of_command pools line s.pool s.command s.spelled ∙ ap (λ (a : Act). Some (Does a)) s.act_is

-- A line has one meaning.
pub one_meaning : (pools : List (List ℕ)) (line : List ℕ) (a b : Said) → Spells pools line a → Spells pools line b → a ≡ b
one_meaning pools line a b one two =
    let read_one = spelled_is_read pools line a one in
    let read_two = spelled_is_read pools line b two in
    cc

-- What is read is what is spelled.
pub read_both_ways : (pools : List (List ℕ)) (line : List ℕ) (said : Said) → (said_of pools line ≡ Some said → Spells pools line said) × (Spells pools line said → said_of pools line ≡ Some said)
read_both_ways pools line said = (read_is_spelled pools line said, spelled_is_read pools line said)

-- ---- the lines that are printed

-- a dataset's path and a file's are printed as such
dataset_printed : (pool dataset : List ℕ) → IsTrue (is_pool_name pool) → HasNameBytes dataset → IsDatasetPath (dataset_text pool dataset) pool dataset
dataset_printed pool dataset is_pool named = record { pool_is = is_pool; dataset_is = named; spelled = refl }

file_printed : (pool dataset file : List ℕ) → IsTrue (is_pool_name pool) → HasNameBytes dataset → HasNameBytes file → IsFilePath (file_text pool dataset file) pool dataset file
file_printed pool dataset file is_pool named file_named = record { pool_is = is_pool; dataset_is = named; file_is = file_named; spelled = refl }

-- a line that is printed spells its command
pub printed_is_spelled : (pool : List ℕ) (command : Command) → IsTrue (is_pool_name pool) → HasLine command → SpellsCommand (command_line pool command) pool command
printed_is_spelled pool (Mkds dataset) is_pool has = record {
  path = dataset_text pool dataset;
  path_is = dataset_printed pool dataset is_pool has.conditions.names.0;
  spelled = refl;
}
printed_is_spelled pool (Rmds dataset) is_pool has = record {
  path = dataset_text pool dataset;
  path_is = dataset_printed pool dataset is_pool has.conditions.names.0;
  spelled = refl;
}
printed_is_spelled pool (Mount dataset) is_pool has = record {
  path = dataset_text pool dataset;
  path_is = dataset_printed pool dataset is_pool has.conditions.names.0;
  spelled = refl;
}
printed_is_spelled pool (Create dataset file) is_pool has = record {
  path = file_text pool dataset file;
  path_is = file_printed pool dataset file is_pool has.conditions.names.0 has.conditions.names.1.0;
  spelled = refl;
}
printed_is_spelled pool (Remove dataset file) is_pool has = record {
  path = file_text pool dataset file;
  path_is = file_printed pool dataset file is_pool has.conditions.names.0 has.conditions.names.1.0;
  spelled = refl;
}
printed_is_spelled pool (Write dataset file offset bytes) is_pool has = record {
  path = file_text pool dataset file;
  path_is = file_printed pool dataset file is_pool has.conditions.names.0 has.conditions.names.1.0;
  from = decimal offset;
  from_is = decimal_is_numeral offset has.conditions.numbers.0;
  digits = encode_lower bytes;
  digits_are = record { some_byte = has.fits.0; digits = decode_of-encode_lower bytes has.fits.1 };
  spelled = refl;
}
printed_is_spelled pool (Fill dataset file offset len byte) is_pool has =
    let is_byte : byte ≤ 255 = has.fits in
    let small : byte ≤ 2 ^ 62 = omega (arith, is_byte) in record {
      path = file_text pool dataset file;
      path_is = file_printed pool dataset file is_pool has.conditions.names.0 has.conditions.names.1.0;
      from = decimal offset;
      from_is = decimal_is_numeral offset has.conditions.numbers.0;
      count = decimal len;
      count_is = decimal_is_numeral len has.conditions.numbers.1.0;
      value = decimal byte;
      value_is = decimal_is_numeral byte small;
      is_byte = is_byte;
      spelled = refl;
    }
printed_is_spelled pool (Truncate dataset file size) is_pool has = record {
  path = file_text pool dataset file;
  path_is = file_printed pool dataset file is_pool has.conditions.names.0 has.conditions.names.1.0;
  number = decimal size;
  number_is = decimal_is_numeral size has.conditions.numbers.0;
  spelled = refl;
}
printed_is_spelled pool (Read dataset file offset len) is_pool has = record {
  path = file_text pool dataset file;
  path_is = file_printed pool dataset file is_pool has.conditions.names.0 has.conditions.names.1.0;
  from = decimal offset;
  from_is = decimal_is_numeral offset has.conditions.numbers.0;
  count = decimal len;
  count_is = decimal_is_numeral len has.conditions.numbers.1.0;
  spelled = refl;
}
printed_is_spelled pool (Stat dataset file) is_pool has = record {
  path = file_text pool dataset file;
  path_is = file_printed pool dataset file is_pool has.conditions.names.0 has.conditions.names.1.0;
  spelled = refl;
}
printed_is_spelled pool Commit is_pool has = record { pool_is = is_pool; spelled = refl }

-- A command's line that is printed is read back.
pub printed_is_read : (pools : List (List ℕ)) (pool : List ℕ) (command : Command) → IsTrue (is_pool_name pool) → HasLine command → said_of pools (command_line pool command) ≡ Some (Does (act_in pools pool command))
printed_is_read pools pool command is_pool has =
    said_of_command pools (command_line pool command) pool command (printed_is_spelled pool command is_pool has)

-- A session's line that is printed is read back.
pub printed_session_is_read : (pools : List (List ℕ)) (session : ℕ) → session ≤ 15 → said_of pools (session_line session) ≡ Some (Session session)
printed_session_is_read pools session few =
    let small : session ≤ 2 ^ 62 = omega arith in
    said_of_session pools (session_line session) session
    (record { number = decimal session; number_is = decimal_is_numeral session small; few = few; spelled = refl })

-- ---- the bytes of lines

-- a word and what stands after it
line_of_words : (front back : List ℕ) → list_all is_word_byte front ≡ true → list_all is_line_byte back ≡ true → list_all is_line_byte (front ++ back) ≡ true
line_of_words front back in_word in_line =
    all_append is_line_byte front back (all_weaker is_word_byte is_line_byte word_byte_in_line front in_word) in_line

line_of_word : (word : List ℕ) → list_all is_word_byte word ≡ true → list_all is_line_byte word ≡ true
line_of_word word in_word = all_weaker is_word_byte is_line_byte word_byte_in_line word in_word

two_in_line : (one two : List ℕ) → list_all is_word_byte one ≡ true → list_all is_word_byte two ≡ true → list_all is_line_byte (one ++ 32 ∷ two) ≡ true
two_in_line one two in_one in_two = line_of_words one (32 ∷ two) in_one (line_of_word two in_two)

three_in_line : (one two three : List ℕ) → list_all is_word_byte one ≡ true → list_all is_word_byte two ≡ true → list_all is_word_byte three ≡ true → list_all is_line_byte (one ++ 32 ∷ (two ++ 32 ∷ three)) ≡ true
three_in_line one two three in_one in_two in_three =
    line_of_words one (32 ∷ (two ++ 32 ∷ three)) in_one (two_in_line two three in_two in_three)

-- a line that spells a command has only bytes 32 to 126
command_in_bytes : (line pool : List ℕ) (command : Command) → SpellsCommand line pool command → list_all is_line_byte line ≡ true
command_in_bytes line pool (Mkds dataset) s =
    ap (list_all is_line_byte) s.spelled ∙ line_of_word s.path (dataset_path_word s.path pool dataset s.path_is)
command_in_bytes line pool (Rmds dataset) s =
    ap (list_all is_line_byte) s.spelled ∙ line_of_word s.path (dataset_path_word s.path pool dataset s.path_is)
command_in_bytes line pool (Mount dataset) s =
    ap (list_all is_line_byte) s.spelled ∙ line_of_word s.path (dataset_path_word s.path pool dataset s.path_is)
command_in_bytes line pool (Create dataset file) s =
    ap (list_all is_line_byte) s.spelled ∙ line_of_word s.path (file_path_word s.path pool dataset file s.path_is)
command_in_bytes line pool (Remove dataset file) s =
    ap (list_all is_line_byte) s.spelled ∙ line_of_word s.path (file_path_word s.path pool dataset file s.path_is)
command_in_bytes line pool (Write dataset file offset bytes) s =
    ap (list_all is_line_byte) s.spelled
    ∙ three_in_line s.path s.from s.digits (file_path_word s.path pool dataset file s.path_is) (numeral_word s.from offset s.from_is) (hex_word s.digits bytes s.digits_are)
command_in_bytes line pool (Fill dataset file offset len byte) s =
    ap (list_all is_line_byte) s.spelled
    ∙ line_of_words s.path (32 ∷ (s.from ++ 32 ∷ (s.count ++ 32 ∷ s.value))) (file_path_word s.path pool dataset file s.path_is)
    (three_in_line s.from s.count s.value (numeral_word s.from offset s.from_is) (numeral_word s.count len s.count_is) (numeral_word s.value byte s.value_is))
command_in_bytes line pool (Truncate dataset file size) s =
    ap (list_all is_line_byte) s.spelled
    ∙ two_in_line s.path s.number (file_path_word s.path pool dataset file s.path_is) (numeral_word s.number size s.number_is)
command_in_bytes line pool (Read dataset file offset len) s =
    ap (list_all is_line_byte) s.spelled
    ∙ three_in_line s.path s.from s.count (file_path_word s.path pool dataset file s.path_is) (numeral_word s.from offset s.from_is) (numeral_word s.count len s.count_is)
command_in_bytes line pool (Stat dataset file) s =
    ap (list_all is_line_byte) s.spelled ∙ line_of_word s.path (file_path_word s.path pool dataset file s.path_is)
command_in_bytes line pool Commit s = ap (list_all is_line_byte) s.spelled ∙ line_of_word pool (pool_word pool s.pool_is)

-- so has a line that spells anything
pub spelled_in_bytes : (pools : List (List ℕ)) (line : List ℕ) (said : Said) → Spells pools line said → list_all is_line_byte line ≡ true
spelled_in_bytes pools line (Session session) s =
    ap (list_all is_line_byte) s.spelled ∙ line_of_word s.number (numeral_word s.number session s.number_is)
spelled_in_bytes pools line (Does act) s = command_in_bytes line s.pool s.command s.spelled

-- A line in the grammar has only bytes 32 to 126.
pub line_bytes : (pools : List (List ℕ)) (line : List ℕ) (said : Said) → said_of pools line ≡ Some said → IsTrue (list_all is_line_byte line)
line_bytes pools line said h = spelled_in_bytes pools line said (read_is_spelled pools line said h)

-- a line that spells a command isn't ignored
command_not_ignored : (line pool : List ℕ) (command : Command) → SpellsCommand line pool command → is_ignored line ≡ false
command_not_ignored line pool (Mkds dataset) s = ap is_ignored s.spelled
command_not_ignored line pool (Rmds dataset) s = ap is_ignored s.spelled
command_not_ignored line pool (Mount dataset) s = ap is_ignored s.spelled
command_not_ignored line pool (Create dataset file) s = ap is_ignored s.spelled
command_not_ignored line pool (Remove dataset file) s = ap is_ignored s.spelled
command_not_ignored line pool (Write dataset file offset bytes) s = ap is_ignored s.spelled
command_not_ignored line pool (Fill dataset file offset len byte) s = ap is_ignored s.spelled
command_not_ignored line pool (Truncate dataset file size) s = ap is_ignored s.spelled
command_not_ignored line pool (Read dataset file offset len) s = ap is_ignored s.spelled
command_not_ignored line pool (Stat dataset file) s = ap is_ignored s.spelled
command_not_ignored line pool Commit s = ap is_ignored s.spelled

spelled_is_not_ignored : (pools : List (List ℕ)) (line : List ℕ) (said : Said) → Spells pools line said → is_ignored line ≡ false
spelled_is_not_ignored pools line (Session session) s = ap is_ignored s.spelled
spelled_is_not_ignored pools line (Does act) s = command_not_ignored line s.pool s.command s.spelled

-- No line in the grammar is ignored.
pub line_not_ignored : (pools : List (List ℕ)) (line : List ℕ) (said : Said) → said_of pools line ≡ Some said → is_ignored line ≡ false
line_not_ignored pools line said h = spelled_is_not_ignored pools line said (read_is_spelled pools line said h)

-- a line in the grammar and its end are the first line of a script
pub line_is_first : (pools : List (List ℕ)) (line rest : List ℕ) (said : Said) → said_of pools line ≡ Some said → texts_of (line ++ (codes "\n" ++ rest)) ≡ line ∷ texts_of rest
line_is_first pools line rest said h = pieces_first 10 line rest (lacks_from_all is_line_byte 10 line refl (line_bytes pools line said h))
