-- Datasets: what is read is spelled so, and what is spelled so is read.
use Rattle.std.proofs.Common.{if◌then◌else◌, ◌≡◌, ℕ, zero, suc, ◌+◌, ◌^◌, ◌≤◌, ◌<◌, true, false, not, ◌&&◌, ltb, leb, eqb, List, [], ◌++◌, length, Ok, refl, sym, ap, subst, ◌∙◌, append_assoc, arith, IsTrue}
use Rattle.std.specs.List.{list_all, list_any}
use Rattle.std.specs.Str.{bytes_eq}
use Rattle.std.proofs.lemmas.Bool.{leb-true, ltb-true, le-leb, lt-ltb, and_parts}
use Rattle.zc_num.specs.Limits.{AreLimits, files_of, pointers_of, log_places_of}
use Rattle.zc_wire.specs.Numbers.{u32_bytes, u64_bytes, IsBytes}
use Rattle.zc_wire.specs.Fields.{u32_field, u64_field}
use Rattle.zc_wire.proofs.FieldLaws.{bind_ok, rule_ok, ok_is, bind_again, rule_on, both_hold, Takes, takes_then, u32_takes, u32_again, u64_takes, u64_again}
use Rattle.zc_tree.specs.declared.tree.LogState.{LogState}
use Rattle.zc_tree.specs.declared.tree.LogState.TheVariants.{Normal, Claimed}
use Rattle.zc_tree.specs.declared.tree.File.{File}
use Rattle.zc_tree.specs.declared.tree.Dataset.{Dataset}
use Rattle.zc_tree.specs.Reach.{pointers_of_files}
use Rattle.zc_tree.specs.Spelling.{name_bytes, log_bytes, files_bytes, dataset_bytes, IsLogState, IsDataset, IsAfter}
use Rattle.zc_command.specs.Names.{IsName}
use Rattle.zc_tree.specs.Reading.{name_length_field, name_field, files_field, claimed_field, log_field, head_field, dataset_field}
use Rattle.zc_tree.proofs.EntryLaws.{name_length_takes, name_length_again, name_takes, name_again}
use Rattle.zc_tree.proofs.FileLaws.{AreSmall, small_limits, name_joined, is_name, not_true, files_take, files_again}

-- ---- the state of a log

claimed_takes : (devices places group : ℕ) (bytes : List ℕ) (x : LogState × List ℕ) → IsBytes bytes → claimed_field devices places group bytes ≡ Ok x
    → (epoch blocks : ℕ) × Takes bytes (u64_bytes epoch ++ u32_bytes blocks) x.1 × (x.0 ≡ Claimed epoch blocks) × IsLogState devices places group (Claimed epoch blocks)
unfolding claimed_field
claimed_takes devices places group bytes x fits e =
    let a = bind_ok (u64_field bytes) _ x e in
    let ar = rule_ok (leb 1 a.0.0 && ltb a.0.0 group) bytes _ x a.2 in
    let b = bind_ok (u32_field a.0.1) _ x ar.1 in
    let br = rule_ok (leb 1 b.0.0 && leb b.0.0 (log_places_of devices places)) a.0.1 _ x b.2 in
    let is = ok_is (Claimed a.0.0 b.0.0, b.0.1) x br.1 in
    let epoch = u64_takes bytes a.0.0 a.0.1 fits a.1 in
    let blocks = u32_takes a.0.1 b.0.0 b.0.1 epoch.0.rest_fits b.1 in
    let in_epoch = and_parts (leb 1 a.0.0) (ltb a.0.0 group) ar.0 in
    let in_blocks = and_parts (leb 1 b.0.0) (leb b.0.0 (log_places_of devices places)) br.0 in (
      a.0.0,
      b.0.0,
      subst (λ (rest : List ℕ). Takes bytes (u64_bytes a.0.0 ++ u32_bytes b.0.0) rest) (ap (λ (y : LogState × List ℕ). y.1) is) (takes_then bytes (u64_bytes a.0.0) a.0.1 (u32_bytes b.0.0) b.0.1 epoch.0 blocks.0),
      sym (ap (λ (y : LogState × List ℕ). y.0) is),
      (leb-true 1 a.0.0 in_epoch.0, ltb-true a.0.0 group in_epoch.1, leb-true 1 b.0.0 in_blocks.0, leb-true b.0.0 (log_places_of devices places) in_blocks.1),
    )

log_chosen : (devices places group state : ℕ) (bytes : List ℕ) (x : LogState × List ℕ) → state ≤ 1 → IsBytes bytes
    → (if eqb state 0 then Ok (Normal, bytes) else claimed_field devices places group bytes) ≡ Ok x
    → ((text : List ℕ) → Takes text (u32_bytes state) bytes → Takes text (log_bytes x.0) x.1) × IsLogState devices places group x.0
unfolding log_bytes
log_chosen devices places group zero bytes x few fits e =
    let is = ok_is (Normal, bytes) x e in
    subst (λ (y : LogState × List ℕ). ((text : List ℕ) → Takes text (u32_bytes 0) bytes → Takes text (log_bytes y.0) y.1) × IsLogState devices places group y.0) is (λ text t. t, tt)
log_chosen devices places group (suc zero) bytes x few fits e =
    let c = claimed_takes devices places group bytes x fits e in (
      λ text t. subst (λ (log : LogState). Takes text (log_bytes log) x.1) (sym c.3) (takes_then text (u32_bytes 1) bytes (u64_bytes c.0 ++ u32_bytes c.1) x.1 t c.2),
      subst (IsLogState devices places group) (sym c.3) c.4,
    )
log_chosen devices places group (suc (suc state)) bytes x few fits e = absurd (omega arith)

pub log_takes : (devices places group : ℕ) (bytes : List ℕ) (x : LogState × List ℕ) → IsBytes bytes → log_field devices places group bytes ≡ Ok x → Takes bytes (log_bytes x.0) x.1 × IsLogState devices places group x.0
unfolding log_field
log_takes devices places group bytes x fits e =
    let a = bind_ok (u32_field bytes) _ x e in
    let r = rule_ok (leb a.0.0 1) bytes _ x a.2 in
    let state = u32_takes bytes a.0.0 a.0.1 fits a.1 in
    let chosen = log_chosen devices places group a.0.0 a.0.1 x (leb-true a.0.0 1 r.0) state.0.rest_fits r.1 in
    (chosen.0 bytes state.0, chosen.1)

pub log_again : (devices places group : ℕ) (log : LogState) (rest : List ℕ) → AreSmall devices places → group < 2 ^ 64 → IsLogState devices places group log → log_field devices places group (log_bytes log ++ rest) ≡ Ok (log, rest)
unfolding log_field claimed_field log_bytes
log_again devices places group Normal rest small width fits =
    bind_again (u32_field (u32_bytes 0 ++ rest)) _ (0, rest) _ (u32_again 0 rest (omega arith)) refl
log_again devices places group (Claimed epoch blocks) rest small width fits =
    let r2 = u32_bytes blocks ++ rest in
    let r1 = u64_bytes epoch ++ r2 in
    let regrouped : (u32_bytes 1 ++ (u64_bytes epoch ++ u32_bytes blocks)) ++ rest ≡ u32_bytes 1 ++ r1 = simp append_assoc in
    ap (log_field devices places group) regrouped
    ∙ bind_again (u32_field (u32_bytes 1 ++ r1)) _ (1, r1) _ (u32_again 1 r1 (omega arith))
    (bind_again (u64_field r1) _ (epoch, r2) _ (u64_again epoch r2 (omega (arith, fits.1, width)))
    (rule_on (leb 1 epoch && ltb epoch group) r1 _ _ (both_hold (leb 1 epoch) (ltb epoch group) (le-leb 1 epoch fits.0) (lt-ltb epoch group fits.1))
    (bind_again (u32_field r2) _ (blocks, rest) _ (u32_again blocks rest (omega (arith, fits.3, small.log)))
    (rule_on (leb 1 blocks && leb blocks (log_places_of devices places)) r2 _ _ (both_hold (leb 1 blocks) (leb blocks (log_places_of devices places)) (le-leb 1 blocks fits.2) (le-leb blocks (log_places_of devices places) fits.3)) refl))))

-- ---- a dataset

as_few : (a b c : ℕ) → a ≡ b → b ≤ c → a ≤ c
as_few a b c same few = omega arith

none_before : (a c : ℕ) → 0 + a ≤ c → a ≤ c
none_before a c few = omega arith

none_used : (a c : ℕ) → a ≤ c → 0 + a ≤ c
none_used a c few = omega arith

some_one : 1 ≤ 1
some_one = omega arith

from_none : (a : ℕ) → 0 ≤ a
from_none a = omega arith

-- what a read of a dataset has found
pub record DatasetFound (devices places group next_dataset : ℕ) (others : List Dataset) (bytes : List ℕ) (dataset : Dataset) (rest : List ℕ) : Type 0 where
  pub takes : Takes bytes (dataset_bytes dataset) rest
  pub fits : IsDataset devices places group next_dataset dataset
  pub behind : IsAfter others dataset

-- ---- the head

record HeadParts (next_dataset : ℕ) (others : List Dataset) (bytes : List ℕ) (x : (ℕ × ℕ × List ℕ) × List ℕ) : Type 0 where
  id : ℕ × List ℕ
  slot : ℕ × List ℕ
  count : ℕ × List ℕ
  name : List ℕ × List ℕ
  id_is : u64_field bytes ≡ Ok id
  id_rule : (leb 1 id.0 && (ltb id.0 next_dataset && list_all (λ (other : Dataset). ltb other.id id.0) others)) ≡ true
  slot_is : u32_field id.1 ≡ Ok slot
  slot_rule : (ltb slot.0 8 && not (list_any (λ (other : Dataset). eqb other.slot slot.0) others)) ≡ true
  count_is : name_length_field slot.1 ≡ Ok count
  name_is : name_field count.0 count.1 ≡ Ok name
  name_rule : not (list_any (λ (other : Dataset). bytes_eq other.name name.0) others) ≡ true
  made : (id.0, slot.0, name.0) ≡ x.0
  rest : name.1 ≡ x.1

head_parts : (next_dataset : ℕ) (others : List Dataset) (bytes : List ℕ) (x : (ℕ × ℕ × List ℕ) × List ℕ) → head_field next_dataset others bytes ≡ Ok x → HeadParts next_dataset others bytes x
unfolding head_field
head_parts next_dataset others bytes x e =
    let a = bind_ok (u64_field bytes) _ x e in
    let ar = rule_ok (leb 1 a.0.0 && (ltb a.0.0 next_dataset && list_all (λ (other : Dataset). ltb other.id a.0.0) others)) bytes _ x a.2 in
    let s = bind_ok (u32_field a.0.1) _ x ar.1 in
    let sr = rule_ok (ltb s.0.0 8 && not (list_any (λ (other : Dataset). eqb other.slot s.0.0) others)) a.0.1 _ x s.2 in
    let c = bind_ok (name_length_field s.0.1) _ x sr.1 in
    let n = bind_ok (name_field c.0.0 c.0.1) _ x c.2 in
    let nr = rule_ok (not (list_any (λ (other : Dataset). bytes_eq other.name n.0.0) others)) c.0.1 _ x n.2 in
    let found : (ℕ × ℕ × List ℕ) × List ℕ = ((a.0.0, s.0.0, n.0.0), n.0.1) in
    let is : found ≡ x = ok_is found x nr.1 in
    record {
      id = a.0;
      slot = s.0;
      count = c.0;
      name = n.0;
      id_is = a.1;
      id_rule = ar.0;
      slot_is = s.1;
      slot_rule = sr.0;
      count_is = c.1;
      name_is = n.1;
      name_rule = nr.0;
      made = ap (λ (y : (ℕ × ℕ × List ℕ) × List ℕ). y.0) is;
      rest = ap (λ (y : (ℕ × ℕ × List ℕ) × List ℕ). y.1) is;
    }

-- the bytes of a head
head_bytes : ℕ × ℕ × List ℕ → List ℕ
head_bytes head = u64_bytes head.0 ++ (u32_bytes head.1 ++ name_bytes head.2)

-- what a read of a head has found
record HeadFound (next_dataset : ℕ) (others : List Dataset) (bytes : List ℕ) (head : ℕ × ℕ × List ℕ) (rest : List ℕ) : Type 0 where
  takes : Takes bytes (head_bytes head) rest
  made : 1 ≤ head.0
  before_next : head.0 < next_dataset
  above : IsTrue (list_all (λ (other : Dataset). ltb other.id head.0) others)
  in_slot : head.1 < 8
  other_slot : list_any (λ (other : Dataset). eqb other.slot head.1) others ≡ false
  name : IsName head.2
  other_name : list_any (λ (other : Dataset). bytes_eq other.name head.2) others ≡ false

head_takes : (next_dataset : ℕ) (others : List Dataset) (bytes : List ℕ) (x : (ℕ × ℕ × List ℕ) × List ℕ) → IsBytes bytes → head_field next_dataset others bytes ≡ Ok x → HeadFound next_dataset others bytes x.0 x.1
unfolding head_bytes
head_takes next_dataset others bytes x fits e =
    let p = head_parts next_dataset others bytes x e in
    let id = u64_takes bytes p.id.0 p.id.1 fits p.id_is in
    let slot = u32_takes p.id.1 p.slot.0 p.slot.1 id.0.rest_fits p.slot_is in
    let count = name_length_takes p.slot.1 p.count slot.0.rest_fits p.count_is in
    let name = name_takes p.count.0 p.count.1 p.name count.0.rest_fits p.name_is in
    let p3 : Takes p.slot.1 (name_bytes p.name.0) p.name.1 = name_joined p.slot.1 p.count.0 p.count.1 p.name.0 p.name.1 count.0 name.0 name.1 in
    let p2 : Takes p.id.1 (u32_bytes p.slot.0 ++ name_bytes p.name.0) p.name.1 = takes_then p.id.1 (u32_bytes p.slot.0) p.slot.1 (name_bytes p.name.0) p.name.1 slot.0 p3 in
    let p1 : Takes bytes (u64_bytes p.id.0 ++ (u32_bytes p.slot.0 ++ name_bytes p.name.0)) p.name.1 = takes_then bytes (u64_bytes p.id.0) p.id.1 (u32_bytes p.slot.0 ++ name_bytes p.name.0) p.name.1 id.0 p2 in
    let in_id = and_parts (leb 1 p.id.0) (ltb p.id.0 next_dataset && list_all (λ (other : Dataset). ltb other.id p.id.0) others) p.id_rule in
    let in_next = and_parts (ltb p.id.0 next_dataset) (list_all (λ (other : Dataset). ltb other.id p.id.0) others) in_id.1 in
    let in_slot = and_parts (ltb p.slot.0 8) (not (list_any (λ (other : Dataset). eqb other.slot p.slot.0) others)) p.slot_rule in
    let found : HeadFound next_dataset others bytes (p.id.0, p.slot.0, p.name.0) p.name.1 = record {
      takes = p1;
      made = leb-true 1 p.id.0 in_id.0;
      before_next = ltb-true p.id.0 next_dataset in_next.0;
      above = in_next.1;
      in_slot = ltb-true p.slot.0 8 in_slot.0;
      other_slot = not_true (list_any (λ (other : Dataset). eqb other.slot p.slot.0) others) in_slot.1;
      name = is_name p.name.0 p.count.0 name.1 count.1 count.2 name.2;
      other_name = not_true (list_any (λ (other : Dataset). bytes_eq other.name p.name.0) others) p.name_rule;
    } in
    subst (λ (rest : List ℕ). HeadFound next_dataset others bytes x.0 rest) p.rest (subst (λ (h : ℕ × ℕ × List ℕ). HeadFound next_dataset others bytes h p.name.1) p.made found)

head_again : (next_dataset : ℕ) (others : List Dataset) (id slot : ℕ) (name rest : List ℕ) → next_dataset < 2 ^ 64 → 1 ≤ id → id < next_dataset → IsTrue (list_all (λ (other : Dataset). ltb other.id id) others)
    → slot < 8 → list_any (λ (other : Dataset). eqb other.slot slot) others ≡ false → IsName name → list_any (λ (other : Dataset). bytes_eq other.name name) others ≡ false
    → head_field next_dataset others (u64_bytes id ++ (u32_bytes slot ++ (u32_bytes (length name) ++ (name ++ rest)))) ≡ Ok ((id, slot, name), rest)
unfolding head_field
head_again next_dataset others id slot name rest width made before above in_slot other_slot is other_name =
    let r3 = name ++ rest in
    let r2 = u32_bytes (length name) ++ r3 in
    let r1 = u32_bytes slot ++ r2 in
    bind_again (u64_field (u64_bytes id ++ r1)) _ (id, r1) _ (u64_again id r1 (omega arith))
    (rule_on (leb 1 id && (ltb id next_dataset && list_all (λ (other : Dataset). ltb other.id id) others)) (u64_bytes id ++ r1) _ _
    (both_hold (leb 1 id) (ltb id next_dataset && list_all (λ (other : Dataset). ltb other.id id) others) (le-leb 1 id made)
    (both_hold (ltb id next_dataset) (list_all (λ (other : Dataset). ltb other.id id) others) (lt-ltb id next_dataset before) above))
    (bind_again (u32_field r1) _ (slot, r2) _ (u32_again slot r2 (omega arith))
    (rule_on (ltb slot 8 && not (list_any (λ (other : Dataset). eqb other.slot slot) others)) r1 _ _
    (both_hold (ltb slot 8) (not (list_any (λ (other : Dataset). eqb other.slot slot) others)) (lt-ltb slot 8 in_slot) (ap not other_slot))
    (bind_again (name_length_field r2) _ (length name, r3) _ (name_length_again (length name) r3 (omega (arith, is.some_byte)) is.few_bytes)
    (bind_again (name_field (length name) r3) _ (name, rest) _ (name_again name rest is.name_bytes)
    (rule_on (not (list_any (λ (other : Dataset). bytes_eq other.name name) others)) r3 _ _ (ap not other_name) refl))))))

-- ---- the whole

record DatasetParts (devices places group next_dataset : ℕ) (others : List Dataset) (bytes : List ℕ) (x : Dataset × List ℕ) : Type 0 where
  head : (ℕ × ℕ × List ℕ) × List ℕ
  next : ℕ × List ℕ
  log : LogState × List ℕ
  number : ℕ × List ℕ
  files : List File × List ℕ
  head_is : head_field next_dataset others bytes ≡ Ok head
  next_is : u64_field head.1 ≡ Ok next
  next_rule : leb 1 next.0 ≡ true
  log_is : log_field devices places group next.1 ≡ Ok log
  number_is : u32_field log.1 ≡ Ok number
  number_rule : leb number.0 (files_of devices places) ≡ true
  files_is : files_field devices places next.0 number.0 1 0 [] number.1 ≡ Ok files
  made : record { id = head.0.0; slot = head.0.1; name = head.0.2; next_file = next.0; log = log.0; files = files.0 } ≡ x.0
  rest : files.1 ≡ x.1

dataset_parts : (devices places group next_dataset : ℕ) (others : List Dataset) (bytes : List ℕ) (x : Dataset × List ℕ)
    → dataset_field devices places group next_dataset others bytes ≡ Ok x → DatasetParts devices places group next_dataset others bytes x
unfolding dataset_field
dataset_parts devices places group next_dataset others bytes x e =
    let h = bind_ok (head_field next_dataset others bytes) _ x e in
    let f = bind_ok (u64_field h.0.1) _ x h.2 in
    let fr = rule_ok (leb 1 f.0.0) h.0.1 _ x f.2 in
    let l = bind_ok (log_field devices places group f.0.1) _ x fr.1 in
    let k = bind_ok (u32_field l.0.1) _ x l.2 in
    let kr = rule_ok (leb k.0.0 (files_of devices places)) l.0.1 _ x k.2 in
    let fs = bind_ok (files_field devices places f.0.0 k.0.0 1 0 [] k.0.1) _ x kr.1 in
    let found : Dataset × List ℕ = (record { id = h.0.0.0; slot = h.0.0.1; name = h.0.0.2; next_file = f.0.0; log = l.0.0; files = fs.0.0 }, fs.0.1) in
    let is : found ≡ x = ok_is found x fs.2 in
    record {
      head = h.0;
      next = f.0;
      log = l.0;
      number = k.0;
      files = fs.0;
      head_is = h.1;
      next_is = f.1;
      next_rule = fr.0;
      log_is = l.1;
      number_is = k.1;
      number_rule = kr.0;
      files_is = fs.1;
      made = ap (λ (y : Dataset × List ℕ). y.0) is;
      rest = ap (λ (y : Dataset × List ℕ). y.1) is;
    }

joined_head : (bytes : List ℕ) (head : ℕ × ℕ × List ℕ) (middle text rest : List ℕ) → Takes bytes (head_bytes head) middle → Takes middle text rest → Takes bytes (u64_bytes head.0 ++ (u32_bytes head.1 ++ (name_bytes head.2 ++ text))) rest
unfolding head_bytes
joined_head bytes head middle text rest first second =
    let regrouped : (u64_bytes head.0 ++ (u32_bytes head.1 ++ name_bytes head.2)) ++ text ≡ u64_bytes head.0 ++ (u32_bytes head.1 ++ (name_bytes head.2 ++ text)) = simp append_assoc in
    subst (λ (t : List ℕ). Takes bytes t rest) regrouped (takes_then bytes (u64_bytes head.0 ++ (u32_bytes head.1 ++ name_bytes head.2)) middle text rest first second)

pub dataset_takes : (devices places group next_dataset : ℕ) (others : List Dataset) (bytes : List ℕ) (x : Dataset × List ℕ) → IsBytes bytes
    → dataset_field devices places group next_dataset others bytes ≡ Ok x → DatasetFound devices places group next_dataset others bytes x.0 x.1
unfolding dataset_bytes
dataset_takes devices places group next_dataset others bytes x fits e =
    let p = dataset_parts devices places group next_dataset others bytes x e in
    let head = head_takes next_dataset others bytes p.head fits p.head_is in
    let next = u64_takes p.head.1 p.next.0 p.next.1 head.takes.rest_fits p.next_is in
    let log = log_takes devices places group p.next.1 p.log next.0.rest_fits p.log_is in
    let number = u32_takes p.log.1 p.number.0 p.number.1 log.0.rest_fits p.number_is in
    let files = files_take devices places p.next.0 p.number.0 1 0 [] p.number.1 p.files number.0.rest_fits some_one (from_none (pointers_of devices places)) p.files_is in
    let made : Dataset = record { id = p.head.0.0; slot = p.head.0.1; name = p.head.0.2; next_file = p.next.0; log = p.log.0; files = p.files.0 } in
    let t6 : List ℕ = u32_bytes (length p.files.0) ++ files_bytes p.files.0 in
    let t5 : List ℕ = log_bytes p.log.0 ++ t6 in
    let t4 : List ℕ = u64_bytes p.next.0 ++ t5 in
    let p6 : Takes p.log.1 t6 p.files.1 = subst (λ (m : ℕ). Takes p.log.1 (u32_bytes m ++ files_bytes p.files.0) p.files.1) (sym files.all) (takes_then p.log.1 (u32_bytes p.number.0) p.number.1 (files_bytes p.files.0) p.files.1 number.0 files.takes) in
    let p5 : Takes p.next.1 t5 p.files.1 = takes_then p.next.1 (log_bytes p.log.0) p.log.1 t6 p.files.1 log.0 p6 in
    let p4 : Takes p.head.1 t4 p.files.1 = takes_then p.head.1 (u64_bytes p.next.0) p.next.1 t5 p.files.1 next.0 p5 in
    let p1 : Takes bytes (dataset_bytes made) p.files.1 = joined_head bytes p.head.0 p.head.1 t4 p.files.1 head.takes p4 in
    let is_dataset : IsDataset devices places group next_dataset made = record {
      made = head.made;
      before_next = head.before_next;
      in_slot = head.in_slot;
      name = head.name;
      some_next_file = leb-true 1 p.next.0 p.next_rule;
      next_file_width = next.1;
      log = log.1;
      few_files = as_few (length p.files.0) p.number.0 (files_of devices places) files.all (leb-true p.number.0 (files_of devices places) p.number_rule);
      files = files.fits;
      files_ascend = files.ascend;
      names_differ = files.new;
      few_pointers = none_before (length (pointers_of_files p.files.0)) (pointers_of devices places) files.few;
    } in
    let behind : IsAfter others made = record { above = head.above; other_slot = head.other_slot; other_name = head.other_name } in
    record {
      takes = subst (λ (rest : List ℕ). Takes bytes (dataset_bytes x.0) rest) p.rest (subst (λ (d : Dataset). Takes bytes (dataset_bytes d) p.files.1) p.made p1);
      fits = subst (IsDataset devices places group next_dataset) p.made is_dataset;
      behind = subst (IsAfter others) p.made behind;
    }

pub dataset_again : (devices places group next_dataset : ℕ) (others : List Dataset) (dataset : Dataset) (rest : List ℕ) → AreSmall devices places → group < 2 ^ 64 → next_dataset < 2 ^ 64
    → IsDataset devices places group next_dataset dataset → IsAfter others dataset → dataset_field devices places group next_dataset others (dataset_bytes dataset ++ rest) ≡ Ok (dataset, rest)
unfolding dataset_field dataset_bytes name_bytes
dataset_again devices places group next_dataset others dataset rest small group_width width fits behind =
    let id = dataset.id in
    let slot = dataset.slot in
    let name = dataset.name in
    let r7 = files_bytes dataset.files ++ rest in
    let r6 = u32_bytes (length dataset.files) ++ r7 in
    let r5 = log_bytes dataset.log ++ r6 in
    let r4 = u64_bytes dataset.next_file ++ r5 in
    let r1 = u64_bytes id ++ (u32_bytes slot ++ (u32_bytes (length name) ++ (name ++ r4))) in
    let regrouped : (u64_bytes id ++ (u32_bytes slot ++ ((u32_bytes (length name) ++ name) ++ (u64_bytes dataset.next_file ++ (log_bytes dataset.log ++ (u32_bytes (length dataset.files) ++ files_bytes dataset.files)))))) ++ rest ≡ r1 = simp append_assoc in
    ap (dataset_field devices places group next_dataset others) regrouped
    ∙ bind_again (head_field next_dataset others r1) _ ((id, slot, name), r4) _
    (head_again next_dataset others id slot name r4 width fits.made fits.before_next behind.above fits.in_slot behind.other_slot fits.name behind.other_name)
    (bind_again (u64_field r4) _ (dataset.next_file, r5) _ (u64_again dataset.next_file r5 fits.next_file_width)
    (rule_on (leb 1 dataset.next_file) r4 _ _ (le-leb 1 dataset.next_file fits.some_next_file)
    (bind_again (log_field devices places group r5) _ (dataset.log, r6) _ (log_again devices places group dataset.log r6 small group_width fits.log)
    (bind_again (u32_field r6) _ (length dataset.files, r7) _ (u32_again (length dataset.files) r7 (omega (arith, fits.few_files, small.files)))
    (rule_on (leb (length dataset.files) (files_of devices places)) r6 _ _ (le-leb (length dataset.files) (files_of devices places) fits.few_files)
    (bind_again (files_field devices places dataset.next_file (length dataset.files) 1 0 [] r7) _ (dataset.files, rest) _
    (files_again devices places dataset.next_file 1 0 [] dataset.files rest small fits.next_file_width fits.files fits.files_ascend fits.names_differ (none_used (length (pointers_of_files dataset.files)) (pointers_of devices places) fits.few_pointers)) refl))))))

-- the same, at bytes that begin so, under the limits
pub dataset_read : (devices places group next_dataset : ℕ) (others : List Dataset) (bytes : List ℕ) (dataset : Dataset) (rest : List ℕ) → AreLimits devices places → group < 2 ^ 64 → next_dataset < 2 ^ 64
    → IsDataset devices places group next_dataset dataset → IsAfter others dataset → bytes ≡ dataset_bytes dataset ++ rest → dataset_field devices places group next_dataset others bytes ≡ Ok (dataset, rest)
dataset_read devices places group next_dataset others bytes dataset rest limits group_width width fits behind parts =
    ap (dataset_field devices places group next_dataset others) parts
    ∙ dataset_again devices places group next_dataset others dataset rest (small_limits devices places limits) group_width width fits behind

-- a dataset alone is after no other
pub after_none : (dataset : Dataset) → IsAfter [] dataset
after_none dataset = record { above = refl; other_slot = refl; other_name = refl }
