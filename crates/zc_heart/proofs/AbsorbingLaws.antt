-- Taking a finished group in changes no file, and the charge is counted from what is left.
use Rattle.std.proofs.Common.{◌≡◌, ◌∙◌, ℕ, suc, ◌+◌, ◌^◌, ◌<◌, ◌≤◌, true, ◌==◌, List, [], ◌∷◌, ◌++◌, map, length, get_or, Some, refl, sym, ap, subst, ⊎_elim, arith}
use Rattle.std.specs.Prelude.{drop, filter, sum_by}
use Rattle.std.proofs.lemmas.List.{append_assoc, length-append, get_or-map}
use Rattle.std.proofs.lemmas.List.Sums.{sum_by-cons}
use Rattle.zc_blkptr.specs.declared.ptr.Ptr.{Ptr}
use Rattle.zc_plain.specs.declared.tally.MadeBlock.{MadeBlock}
use Rattle.zc_plain.specs.declared.tally.Tally.{Tally}
use Rattle.zc_plain.specs.Charge.{is_after, seals_up_to, with_finish}
use Rattle.zc_heart.specs.declared.changes.GroupDone.{GroupDone}
use Rattle.zc_heart.specs.declared.stamps.Stamp.{Stamp}
use Rattle.zc_heart.specs.declared.stamps.Stamps.{Stamps}
use Rattle.zc_heart.specs.declared.pool_core.HeartDataset.{HeartDataset}
use Rattle.zc_heart.specs.declared.pool_core.WaitingGroup.{WaitingGroup}
use Rattle.zc_heart.specs.declared.pool_core.Core.{Core}
use Rattle.zc_heart.specs.Changes.{Where}
use Rattle.zc_plain.specs.Charge.{is_stamp}
use Rattle.std.proofs.Common.{is_some, false}
use Rattle.std.proofs.lemmas.Option.{get_or_from_slice_get}
use Rattle.std.specs.Prelude.{slice_get}
use Rattle.std.proofs.lemmas.Bool.{cases_Bool, cases_lt}
use Rattle.zc_heart.proofs.StampLaws.{one_stamp}
use Rattle.zc_heart.specs.Stamps.{files_at, Learns, ptr_at, pair_of, AreKnown, StaysKnown}
use Rattle.zc_heart.specs.Core.{pool_of, made_waiting, AreMade, Agrees, Base, Leads, IsCore}
use Rattle.zc_heart.specs.Meaning.{placed_at, MayAbsorb, Absorbs}
use Rattle.zc_heart.specs.Noted.{AreWhere, first_stamps}
use Rattle.zc_heart.proofs.TallyLaws.{made_of, group_of, seals_are, made_after_first, whole_after_first, any_after, all_kept}

-- ---- where blocks are

-- what is known once one more block was placed
pub known_more : (old new : Stamps) (at : Stamp) (ptr : Ptr) → (0 < files_at old (pair_of at) → ptr_at new (pair_of at) ≡ Some ptr)
    → ((other : ℕ × ℕ) → is_stamp (pair_of at) other ≡ false → ptr_at new other ≡ ptr_at old other)
    → (stamp : ℕ × ℕ) → 0 < files_at old stamp → is_some (ptr_at old stamp) ≡ true → is_some (ptr_at new stamp) ≡ true
known_more old new at ptr placed kept stamp some was =
    ⊎_elim
    (λ (here : is_stamp (pair_of at) stamp ≡ true).
    let same : pair_of at ≡ stamp = one_stamp (pair_of at) stamp here in
    ap is_some (ap (ptr_at new) (sym same) ∙ placed (subst (λ (s : ℕ × ℕ). 0 < files_at old s) (sym same) some)))
    (λ (apart : is_stamp (pair_of at) stamp ≡ false). ap is_some (kept stamp apart) ∙ was)
    (cases_Bool (is_stamp (pair_of at) stamp))

-- of the stamps up to the next place all are known once its block was placed
pub known_next : (start old new : Stamps) (list : List Stamp) (k : ℕ) (default : Stamp) (ptr : Ptr) → ((stamp : ℕ × ℕ) → files_at old stamp ≡ files_at start stamp)
    → (0 < files_at old (pair_of (get_or list k default)) → ptr_at new (pair_of (get_or list k default)) ≡ Some ptr)
    → ((other : ℕ × ℕ) → is_stamp (pair_of (get_or list k default)) other ≡ false → ptr_at new other ≡ ptr_at old other)
    → ((j : ℕ) (stamp : Stamp) → j < k → slice_get list j ≡ Some stamp → 0 < files_at start (pair_of stamp) → is_some (ptr_at old (pair_of stamp)) ≡ true)
    → (j : ℕ) (stamp : Stamp) → j < k + 1 → slice_get list j ≡ Some stamp → 0 < files_at start (pair_of stamp) → is_some (ptr_at new (pair_of stamp)) ≡ true
known_next start old new list k default ptr files placed kept known j stamp within there some =
    ⊎_elim
    (λ (before : j < k). known_more old new (get_or list k default) ptr placed kept (pair_of stamp) (subst (λ (n : ℕ). 0 < n) (sym (files (pair_of stamp))) some) (known j stamp before there some))
    (λ (at : k ≤ j).
    let here : k ≡ j = omega (arith, within, at) in
    let same : get_or list k default ≡ stamp = ap (λ (n : ℕ). get_or list n default) here ∙ get_or_from_slice_get list j stamp default there in
    ap is_some (ap (λ (s : Stamp). ptr_at new (pair_of s)) (sym same) ∙ placed (subst (λ (s : Stamp). 0 < files_at old (pair_of s)) (sym same) (subst (λ (n : ℕ). 0 < n) (sym (files (pair_of stamp))) some))))
    (cases_lt j k)

-- one more block is known to be where it stands
pub where_more : (placing : Where) (old new : Stamps) (stamp : Stamp) (ptr : Ptr) → AreWhere placing old → Learns old new (pair_of stamp) ptr → placing stamp.entry stamp.index ≡ ptr → AreWhere placing new
where_more placing old new stamp ptr known learns is entry index found there =
    ⊎_elim
    (λ (before : ptr_at old (entry, index) ≡ Some found). known entry index found before)
    (λ (learnt : ((entry, index) ≡ pair_of stamp) × (found ≡ ptr) × (0 < files_at old (entry, index))). (λ i. placing (learnt.0 i).0 (learnt.0 i).1) ∙ is ∙ sym learnt.1)
    (learns (entry, index) found there)

-- a pointer of a list, by its place
pub placed_there : (placing : Where) (list : List Stamp) (placed : List Ptr) (k : ℕ) (stamp : Stamp) (ptr : Ptr) → placed_at placing list ≡ placed → k < length list
    → placing (get_or list k stamp).entry (get_or list k stamp).index ≡ get_or placed k ptr
placed_there placing list placed k stamp ptr are within =
    sym (get_or-map (λ (one : Stamp). placing one.entry one.index) list k stamp ptr within) ∙ ap (λ (ptrs : List Ptr). get_or ptrs k ptr) are

-- ---- the heart

abbrev taken_in : Core → List WaitingGroup → ℕ → Stamps → Core
taken_in core others held stamps = record core { waiting = others; held = held; stamps = stamps }

-- what the charge is counted from
agrees_finished : (core : Core) (waits : WaitingGroup) (others : List WaitingGroup) (held : ℕ) (stamps : Stamps) → core.waiting ≡ waits ∷ others → (tally : Tally) → Agrees tally core
    → Agrees (with_finish waits.group held tally) (taken_in core others held stamps)
unfolding with_finish
agrees_finished core waits others held stamps first tally agrees =
    let from = length agrees.finished in
    let sealed : tally.sealed ≡ agrees.finished ++ waits.group ∷ map group_of others = agrees.sealed ∙ ap (λ (waiting : List WaitingGroup). agrees.finished ++ map group_of waiting) first in
    let seals : seals_up_to waits.group tally.sealed ≡ from + 1 = seals_are tally.sealed agrees.finished (map group_of others) waits.group sealed agrees.apart in
    let longer : length (agrees.finished ++ waits.group ∷ []) ≡ from + 1 = length-append agrees.finished (waits.group ∷ []) in
    let made : AreMade from (waits ∷ others) core.made tally.made = subst (λ (waiting : List WaitingGroup). AreMade from waiting core.made tally.made) first agrees.made in
    let whole : length tally.made ≡ sum_by made_of (waits ∷ others) + core.made = agrees.whole ∙ ap (λ (waiting : List WaitingGroup). sum_by made_of waiting + core.made) first in
    let long : length tally.sealed ≡ from + length (waits.group ∷ map group_of others) = ap length sealed ∙ length-append agrees.finished (waits.group ∷ map group_of others) in
    let some : length (waits.group ∷ map group_of others) ≡ suc (length (map group_of others)) = refl in
    subst (λ (n : ℕ). Agrees (record { sealed = tally.sealed; held = held; made = filter (is_after n) tally.made }) (taken_in core others held stamps)) (sym seals) (record {
      held = refl;
      finished = agrees.finished ++ waits.group ∷ [];
      sealed = sealed ∙ sym (append_assoc agrees.finished (waits.group ∷ []) (map group_of others));
      apart = agrees.apart;
      below = agrees.below;
      made = subst (λ (n : ℕ). AreMade n others core.made (filter (is_after (from + 1)) tally.made)) (sym longer) (made_after_first from waits others core.made tally.made made);
      whole = whole_after_first from waits others core.made tally.made made whole;
      marks = λ place dataset at file k stands there.
          agrees.marks place dataset at file k stands there
          ∙ sym (any_after (from + 1) (record { seals = length tally.sealed; dataset = dataset.id; file = file.id; block = k }) tally.made (omega (arith, long, some)));
      no_dataset = all_kept (λ (block : MadeBlock). block.dataset < core.next_dataset) (is_after (from + 1)) tally.made agrees.no_dataset;
      no_file = λ place dataset stands. all_kept (λ (block : MadeBlock). (block.dataset == dataset.id) ≡ true → block.file < dataset.next_file) (is_after (from + 1)) tally.made (agrees.no_file place dataset stands);
    })

leads_still : (core : Core) (others : List WaitingGroup) (held : ℕ) (stamps : Stamps) (base : Base) → Leads base core → Leads base (taken_in core others held stamps)
leads_still core others held stamps base led = record { before = led.before; next_dataset = led.next_dataset; datasets = led.datasets; made = led.made }

taken_is_core : (core : Core) (waits : WaitingGroup) (others : List WaitingGroup) (held : ℕ) (stamps : Stamps) → core.waiting ≡ waits ∷ others → held ≤ 2 ^ 62 → ((stamp : ℕ × ℕ) → files_at stamps stamp ≡ files_at core.stamps stamp) → IsCore core
    → IsCore (taken_in core others held stamps)
taken_is_core core waits others held stamps first low files is = record {
  plain = is.plain;
  datasets = is.datasets;
  apart = is.apart;
  counted = λ stamp. files stamp ∙ is.counted stamp;
  stamped = is.stamped;
  logged = is.logged;
  held = low;
  few =
      let sum : made_waiting core ≡ waits.made + sum_by made_of others = ap (sum_by made_of) first ∙ sum_by-cons made_of waits others in
      let few = is.few in
      omega (arith, few, sum);
}

-- ---- by what a call did

-- some group waits
pub some_waits : (done : GroupDone) (core : Core) → MayAbsorb done core → 0 < length core.waiting
some_waits done core may =
    let long : length core.waiting ≡ suc (length may.others) = ap length may.first in
    omega (arith, long)

pub as_many : (done : GroupDone) (core : Core) → MayAbsorb done core → length done.placed ≡ length (first_stamps core.waiting)
as_many done core may = may.placed ∙ ap length (sym (ap first_stamps may.first))

pub core_taken : (done : GroupDone) (old new : Core) → MayAbsorb done old → done.held ≤ 2 ^ 62 → IsCore old → new ≡ record old { waiting = drop 1 old.waiting; held = done.held; stamps = new.stamps }
    → ((stamp : ℕ × ℕ) → files_at new.stamps stamp ≡ files_at old.stamps stamp) → IsCore new
core_taken done old new may low is rest files =
    let others : drop 1 old.waiting ≡ may.others = ap (drop 1) may.first in
    subst IsCore (sym (rest ∙ ap (λ (waiting : List WaitingGroup). taken_in old waiting done.held new.stamps) others)) (taken_is_core old may.waits may.others done.held new.stamps may.first low files is)

pub absorbed : (done : GroupDone) (old new : Core) → MayAbsorb done old → new ≡ record old { waiting = drop 1 old.waiting; held = done.held; stamps = new.stamps }
    → ((placing : Where) → AreWhere placing old.stamps → placed_at placing (first_stamps old.waiting) ≡ done.placed → AreWhere placing new.stamps)
    → AreKnown old.stamps new.stamps (first_stamps old.waiting) → StaysKnown old.stamps new.stamps → Absorbs done old new
absorbed done old new may rest places known stays =
    let stamps = new.stamps in
    let others : drop 1 old.waiting ≡ may.others = ap (drop 1) may.first in
    let is : new ≡ taken_in old may.others done.held stamps = rest ∙ ap (λ (waiting : List WaitingGroup). taken_in old waiting done.held stamps) others in
    record {
      pool = ap pool_of is;
      areas = ap (λ (core : Core). map (λ (dataset : HeartDataset). dataset.area) core.datasets) is;
      leads = λ base led. subst (Leads base) (sym is) (leads_still old may.others done.held stamps base led);
      agrees = λ tally agrees.
          subst (Agrees (with_finish done.group done.held tally)) (sym is)
          (subst (λ (group : ℕ). Agrees (with_finish group done.held tally) (taken_in old may.others done.held stamps)) (sym may.group) (agrees_finished old may.waits may.others done.held stamps may.first tally agrees));
      knows = λ placing waits left first knows placed. places placing knows (ap (placed_at placing) (ap first_stamps first) ∙ placed);
      known = λ waits others first. subst (λ (waiting : List WaitingGroup). AreKnown old.stamps new.stamps (first_stamps waiting)) first known;
      stays_known = stays;
      group = ap (λ (core : Core). core.group) is;
      waiting = ap (λ (core : Core). core.waiting) rest;
      last = ap (λ (core : Core). core.last) is;
    }
