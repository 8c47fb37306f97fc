-- The status of a run, and its text.
use Rattle.std.specs.Prelude.{◌≡◌, ℕ, ◌++◌, ◌&&◌, Bool, true, false, List, [], codes, Result, Ok, Err, OnOk}
use Rattle.std.specs.Fmt.{decimal}
use Rattle.std.specs.declared.alloc.AllocError.{AllocError}
use Rattle.hex.specs.Hex.{encode_lower}
use Rattle.zc_damage.specs.declared.damage.Damage.{Damage}
use Rattle.zc_damage.specs.declared.damage.DamageKind.{DamageKind}
use Rattle.zc_damage.specs.declared.damage.DamageKind.TheVariants.{Geometry, Chain, Digest, Catalogue, Worn, Birth, Epoch, Log, Record, Reach, Owner, Block, Tail, Count, Region, Map, Charge}
use Rattle.zc_tape.specs.declared.disks.Failed.{Failed}
use Rattle.zc_group.specs.declared.create.CreateFault.{CreateFault}
use Rattle.zc_group.specs.declared.create.CreateFault.TheVariants as create
use Rattle.zc_prog.specs.declared.fault.SessionFault.{SessionFault}
use Rattle.zc_prog.specs.declared.fault.SessionFault.TheVariants as session
use Rattle.zc_prog.specs.declared.session.Played.{Played as RunText}
use Rattle.zc_prog.specs.declared.ended.Ended.{Ended}
use Rattle.zc_prog.specs.declared.ended.Ended.TheVariants.{Usage, ReadFault, TooLarge, BadLine, Missing, DiskFault, NoPool, Damaged, PoolExists, OtherSize, Played, Created}

-- 0, or 6 where not all was good: the last commit failed, or the disk set wasn't taken back with Ok
abbrev pub given_code : Bool → ℕ
given_code true = 0
given_code false = 6

-- the status
abbrev pub code_of : Ended → ℕ
code_of Usage = 2
code_of (BadLine line) = 3
code_of ReadFault = 4
code_of DiskFault = 6
code_of NoPool = 7
code_of (Damaged damage) = 8
code_of PoolExists = 9
code_of TooLarge = 10
code_of Missing = 11
code_of OtherSize = 12
code_of (Played text good) = given_code good
code_of (Created given) = given_code given

-- the word of a kind of damage
abbrev pub kind_text : DamageKind → List ℕ
kind_text Geometry = codes "geometry"
kind_text Chain = codes "chain"
kind_text Digest = codes "digest"
kind_text Catalogue = codes "catalogue"
kind_text Worn = codes "worn"
kind_text Birth = codes "birth"
kind_text Epoch = codes "epoch"
kind_text Log = codes "log"
kind_text Record = codes "record"
kind_text Reach = codes "reach"
kind_text Owner = codes "owner"
kind_text Block = codes "block"
kind_text Tail = codes "tail"
kind_text Count = codes "count"
kind_text Region = codes "region"
kind_text Map = codes "map"
kind_text Charge = codes "charge"

-- its place
abbrev pub place_text : Damage → List ℕ
place_text damage = decimal damage.device ++ (codes ":" ++ decimal damage.place)

-- the two values in lower-case hexadecimal digits
abbrev pub values_text : Damage → List ℕ
values_text damage = codes " kept " ++ (encode_lower damage.kept ++ (codes " found " ++ encode_lower damage.found))

-- a damage: its kind, its place, its values
abbrev pub damage_text : Damage → List ℕ
damage_text damage = codes "damaged " ++ (kind_text damage.kind ++ (codes " " ++ (place_text damage ++ values_text damage)))

-- a line, ended by one byte 10
abbrev pub line_of : List ℕ → List ℕ
line_of text = text ++ codes "\n"

-- the text: one line that says what is amiss, or all the replies; a creation says nothing
abbrev pub text_of : List ℕ → Ended → List ℕ
text_of name Usage = line_of (codes "usage")
text_of name (BadLine line) = line_of (codes "bad line " ++ decimal line)
text_of name ReadFault = line_of (codes "read fault")
text_of name DiskFault = line_of (codes "disk fault " ++ name)
text_of name NoPool = line_of (codes "no pool " ++ name)
text_of name (Damaged damage) = line_of (damage_text damage)
text_of name PoolExists = line_of (codes "pool exists " ++ name)
text_of name TooLarge = line_of (codes "script too large")
text_of name Missing = line_of (codes "missing " ++ name)
text_of name OtherSize = line_of (codes "other size " ++ name)
text_of name (Played text good) = text
text_of name (Created given) = []

-- what a run came to, by what came of its session and whether the disk set was taken back with Ok: it was good where its last commit was
-- done and the set was taken back
abbrev pub EndsAs : Result RunText SessionFault → Bool → Result Ended AllocError → Type 0
EndsAs (Ok played) given result = result ≡ Ok (Played played.text.items (played.good && given))
EndsAs (Err session.NoPool) given result = result ≡ Ok NoPool
EndsAs (Err (session.Damaged damage)) given result = result ≡ Ok (Damaged damage)
EndsAs (Err session.Failed) given result = result ≡ Ok DiskFault
EndsAs (Err session.NoMemory) given result = OnOk result ⊥

-- what a creation came to, by what came of it and whether the disk set was taken back with Ok
abbrev pub MakesAs : Result (Unit {0}) CreateFault → Bool → Result Ended AllocError → Type 0
MakesAs (Ok done) given result = result ≡ Ok (Created given)
MakesAs (Err create.PoolExists) given result = result ≡ Ok PoolExists
MakesAs (Err create.Failed) given result = result ≡ Ok DiskFault
MakesAs (Err create.NoMemory) given result = OnOk result ⊥

-- what a look at a disk set of another size came to
abbrev pub LooksAs : Result Bool Failed → Ended → Type 0
LooksAs (Ok true) ended = ended ≡ PoolExists
LooksAs (Ok false) ended = ended ≡ OtherSize
LooksAs (Err fault) ended = ended ≡ DiskFault
