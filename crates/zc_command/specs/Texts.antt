-- The one text of each reply, without the end of its line, and the number of each refusal.
use Rattle.std.specs.Prelude.{ℕ, List, [], ◌∷◌, ◌++◌, codes}
use Rattle.std.specs.Fmt.{decimal}
use Rattle.hex.specs.Hex.{encode_lower}
use Rattle.zc_command.specs.declared.refusal.Part.{Part}
use Rattle.zc_command.specs.declared.refusal.Part.TheVariants.{Dataset, File}
use Rattle.zc_command.specs.declared.refusal.Why.{Why}
use Rattle.zc_command.specs.declared.refusal.Why.TheVariants.{Mounted, Unmounted}
use Rattle.zc_command.specs.declared.refusal.Bad.{Bad}
use Rattle.zc_command.specs.declared.refusal.Bad.TheVariants.{Length}
use Rattle.zc_command.specs.declared.refusal.What.{What}
use Rattle.zc_command.specs.declared.refusal.What.TheVariants.{Datasets, Files, Pointers, Charge}
use Rattle.zc_command.specs.declared.refusal.Refusal.{Refusal}
use Rattle.zc_command.specs.declared.refusal.Refusal.TheVariants.{Enoent, Eio, Enxio, Ebusy, Eexist, Einval, Efbig, Enospc, Enametoolong}
use Rattle.zc_command.specs.declared.reply.Reply.{Reply}
use Rattle.zc_command.specs.declared.reply.Reply.TheVariants.{Done, Count, Data, Size, No}
use Rattle.zc_command.specs.Names.{most_name}

-- the number of the system's error of the refusal's name
abbrev pub refusal_number : Refusal → ℕ
refusal_number (Enoent part) = 2
refusal_number (Eio call) = 5
refusal_number Enxio = 6
refusal_number (Ebusy why) = 16
refusal_number Eexist = 17
refusal_number (Einval bad) = 22
refusal_number (Efbig end most) = 27
refusal_number (Enospc what need most) = 28
refusal_number (Enametoolong len) = 36

-- bytes in lower-case hexadecimal digits, or `-` where there are none
abbrev pub bytes_text : List ℕ → List ℕ
bytes_text [] = codes "-"
bytes_text (byte ∷ bytes) = encode_lower (byte ∷ bytes)

-- a number and the limit that it exceeds
abbrev pub excess_text : ℕ → ℕ → List ℕ
excess_text number most = decimal number ++ (codes " of " ++ decimal most)

-- the word for a part of a path
abbrev pub part_text : Part → List ℕ
part_text Dataset = codes "dataset"
part_text File = codes "file"

-- the word for why a dataset can't be had
abbrev pub why_text : Why → List ℕ
why_text Mounted = codes "mounted"
why_text Unmounted = codes "unmounted"

-- the word for a number outside its range
abbrev pub bad_text : Bad → List ℕ
bad_text Length = codes "length"

-- the word for what there is no room for
abbrev pub what_text : What → List ℕ
what_text Datasets = codes "datasets"
what_text Files = codes "files"
what_text Pointers = codes "pointers"
what_text Charge = codes "charge"

-- the text of a refusal
abbrev pub refusal_text : Refusal → List ℕ
refusal_text (Enoent part) = codes "ENOENT " ++ part_text part
refusal_text (Eio call) = codes "EIO call " ++ decimal call
refusal_text Enxio = codes "ENXIO unmounted"
refusal_text (Ebusy why) = codes "EBUSY " ++ why_text why
refusal_text Eexist = codes "EEXIST"
refusal_text (Einval bad) = codes "EINVAL " ++ bad_text bad
refusal_text (Efbig end most) = codes "EFBIG " ++ excess_text end most
refusal_text (Enospc what need most) = codes "ENOSPC " ++ (what_text what ++ (codes " " ++ excess_text need most))
refusal_text (Enametoolong len) = codes "ENAMETOOLONG " ++ excess_text len most_name

-- the text of a file's size and its number of blocks
abbrev pub size_text : ℕ → ℕ → List ℕ
size_text size blocks = codes "size " ++ (decimal size ++ (codes " blocks " ++ decimal blocks))

-- the text of a reply
abbrev pub reply_text : Reply → List ℕ
reply_text Done = codes "ok"
reply_text (Count bytes) = codes "ok " ++ decimal bytes
reply_text (Data bytes) = codes "data " ++ bytes_text bytes
reply_text (Size size blocks) = size_text size blocks
reply_text (No refusal) = refusal_text refusal
