-- What a crash in a moment leaves, with as much of each unsynced write as is kept.
use Rattle.std.proofs.Common.{◌≡◌, ◌⊎◌, min, ℕ, ◌+◌, ◌<◌, ◌≤◌, Bool, true, false, Some, None, List, [], ◌∷◌, ◌++◌, length, map, take, drop, get_or, refl, ap, sym, ◌∙◌, cond, inl, inr, arith}
use Rattle.std.specs.List.{slice_get, list_all}
use Rattle.std.specs.Option.{unwrap_or}
use Rattle.std.proofs.lemmas.Bool.{and_parts}
use Rattle.std.proofs.lemmas.List.Folds.{list_all-append}
use Rattle.std.proofs.lemmas.Option.{slice_get_cases}
use Rattle.std.proofs.lemmas.List.Sums.{fold_push}
use Rattle.std.proofs.lemmas.Grind.{common_steps, take_at_read}
use Rattle.std.proofs.lemmas.List.{drop-append-le, length-take, length-map, take-map, map_push, drop_all, get_or_default, take-append-drop, take_all, take_min, drop-map}
use Rattle.zc_tape.specs.declared.entry.Entry.{Entry}
use Rattle.zc_tape.specs.declared.keep.Keep.{Keep}
use Rattle.zc_tape.specs.declared.keep.Keep.TheVariants.{Old, New, Half}
use Rattle.zc_tape.specs.Blocks.{made_of}
use Rattle.zc_tape.specs.Tape.{Image, Call, Write, Sync, Made, Tape, is_at}
use Rattle.zc_tape.specs.Crash.{held, held_after, with_call, with_under_way, writes_at, synced_at, unsynced_at, Left}
use Rattle.zc_tape.specs.LastSync.{writes_of, is_synced, IsLastSync}
use Rattle.zc_tape.specs.Memory.{half, keep_of, kept, left_by}
use Rattle.zc_tape.proofs.Places.{with_bytes_elsewhere, neither}
use Rattle.zc_tape.proofs.HeldLaws.{held_push}
use Rattle.zc_tape.proofs.Moments.{unsynced_at_end, unsynced_at_past}

-- the choice for one more write
pub kept_push : (before : Image) (writes : List Call) (choice : List Keep) (call : Call)
    → kept before (writes ++ call ∷ []) choice ≡ keep_of (unwrap_or (slice_get choice (length writes)) Old) (kept before writes choice) call
kept_push before [] [] call = refl
kept_push before [] (keep ∷ choice) call = refl
kept_push before (write ∷ writes) [] call = refl
kept_push before (write ∷ writes) (keep ∷ choice) call = kept_push (keep_of keep before write) writes choice call

-- a choice for one write changes at most its place
pub keep_elsewhere : (keep : Keep) (before : Image) (device place : ℕ) (bytes : List ℕ) (d p : ℕ) → is_at device place d p ≡ false
    → keep_of keep before (Write device place bytes) d p ≡ before d p
keep_elsewhere Old before device place bytes d p e = refl
keep_elsewhere New before device place bytes d p e = with_bytes_elsewhere before device place bytes d p e
keep_elsewhere Half before device place bytes d p e = with_bytes_elsewhere before device place (half bytes (before device place)) d p e

-- choices change at most the places of the writes
pub kept_elsewhere : (before : Image) (writes : List Call) (choice : List Keep) (d p : ℕ) → writes_at writes d p ≡ false
    → kept before writes choice d p ≡ before d p
kept_elsewhere before [] choice d p e = refl
kept_elsewhere before (call ∷ writes) [] d p e = refl
kept_elsewhere before (Write device place bytes ∷ writes) (keep ∷ choice) d p e =
    let apart : (is_at device place d p ≡ false) × (writes_at writes d p ≡ false) = neither (is_at device place d p) (writes_at writes d p) e in
    kept_elsewhere (keep_of keep before (Write device place bytes)) writes choice d p apart.1 ∙ keep_elsewhere keep before device place bytes d p apart.0
kept_elsewhere before (Sync ∷ writes) (Old ∷ choice) d p e = kept_elsewhere before writes choice d p e
kept_elsewhere before (Sync ∷ writes) (New ∷ choice) d p e = kept_elsewhere before writes choice d p e
kept_elsewhere before (Sync ∷ writes) (Half ∷ choice) d p e = kept_elsewhere before writes choice d p e

-- whatever is kept, a crash may leave it
pub left_by_allowed : (t : Tape) (moment : ℕ) (choice : List Keep) → Left t moment (left_by t moment choice)
left_by_allowed t moment choice = λ d p e. kept_elsewhere (synced_at t moment) (unsynced_at t moment) choice d p e

-- the calls of the first entries and of the next
pub entries_next : (entries : List Entry) (i : ℕ) (e : Entry) → i < length entries → e ≡ get_or entries i e
    → take (i + 1) (map made_of entries) ≡ take i (map made_of entries) ++ made_of e ∷ []
entries_next entries i e inside here =
    let more : take (i + 1) entries ≡ take i entries ++ e ∷ [] = (take_at_read entries i e inside).1 ∙ ap (λ x. take i entries ++ x ∷ []) (sym here) in
    take-map made_of (i + 1) entries ∙ ap (map made_of) more ∙ map_push made_of (take i entries) e ∙ ap (λ xs. xs ++ made_of e ∷ []) (sym (take-map made_of i entries))

-- before any call nothing is synced or written
pub last_sync_first : (calls : List Made) → IsLastSync calls 0 0
last_sync_first calls = record { within = omega arith; synced = λ start. refl; unsynced = λ start. refl }

module _ (calls : List Made) (i last : ℕ) (call : Call) (ok : Bool) (inside : i < length calls)
    (next : take (i + 1) calls ≡ take i calls ++ record { call = call; ok = ok } ∷ []) (found : IsLastSync calls i last) where
  held_next : (start : Image) → held start (take (i + 1) calls) ≡ held_after (held start (take i calls)) call ok
  held_next start = ap (held start) next ∙ held_push start (take i calls) (record { call = call; ok = ok })

  writes_next : writes_of (drop last (take (i + 1) calls)) ≡ with_call (writes_of (drop last (take i calls))) call
  writes_next =
      ap (λ xs. writes_of (drop last xs)) next
      ∙ ap writes_of (drop-append-le last (take i calls) (record { call = call; ok = ok } ∷ []) (simp length-take (omega (arith, found.within))))
      ∙ fold_push (λ writes (m : Made). with_call writes m.call) [] (drop last (take i calls)) (record { call = call; ok = ok })

  writes_none : writes_of (drop (i + 1) (take (i + 1) calls)) ≡ []
  writes_none = ap writes_of (drop_all (i + 1) (take (i + 1) calls) (simp length-take (omega arith)))

-- one more call, by what it is
last_sync_by : (calls : List Made) (i last : ℕ) (call : Call) (ok : Bool) → i < length calls
    → take (i + 1) calls ≡ take i calls ++ record { call = call; ok = ok } ∷ [] → IsLastSync calls i last
    → IsLastSync calls (i + 1) (cond (is_synced (record { call = call; ok = ok })) (i + 1) last)
last_sync_by calls i last Sync true inside next found = record {
  within = omega arith;
  synced = λ start. rw (held_next calls i last Sync true inside next found start) refl;
  unsynced = λ start. rw (held_next calls i last Sync true inside next found start) (sym (writes_none calls i last Sync true inside next found));
}
last_sync_by calls i last Sync false inside next found = record {
  within = omega (arith, found.within);
  synced = λ start. rw (held_next calls i last Sync false inside next found start) (found.synced start);
  unsynced = λ start. rw (held_next calls i last Sync false inside next found start) (found.unsynced start ∙ sym (writes_next calls i last Sync false inside next found));
}
last_sync_by calls i last (Write device place bytes) true inside next found = record {
  within = omega (arith, found.within);
  synced = λ start. rw (held_next calls i last (Write device place bytes) true inside next found start) (found.synced start);
  unsynced = λ start. rw (held_next calls i last (Write device place bytes) true inside next found start)
      (ap (λ writes. writes ++ Write device place bytes ∷ []) (found.unsynced start) ∙ sym (writes_next calls i last (Write device place bytes) true inside next found));
}
last_sync_by calls i last (Write device place bytes) false inside next found = record {
  within = omega (arith, found.within);
  synced = λ start. rw (held_next calls i last (Write device place bytes) false inside next found start) (found.synced start);
  unsynced = λ start. rw (held_next calls i last (Write device place bytes) false inside next found start)
      (ap (λ writes. writes ++ Write device place bytes ∷ []) (found.unsynced start) ∙ sym (writes_next calls i last (Write device place bytes) false inside next found));
}

-- one more entry
pub last_sync_next : (entries : List Entry) (i last : ℕ) (d : Entry) → i < length entries → IsLastSync (map made_of entries) i last
    → IsLastSync (map made_of entries) (i + 1) (cond (is_synced (made_of (get_or entries i d))) (i + 1) last)
last_sync_next entries i last d inside found =
    let e : Entry = get_or entries i d in
    last_sync_by (map made_of entries) i last (made_of e).call (made_of e).ok (omega (arith, length-map entries made_of))
    (entries_next entries i e inside (get_or_default entries i d e inside)) found

-- the writes of the first entries and of the next
writes_of_next : (entries : List Entry) (i : ℕ) (e : Entry) → i < length entries → e ≡ get_or entries i e
    → writes_of (map made_of (take (i + 1) entries)) ≡ with_call (writes_of (map made_of (take i entries))) (made_of e).call
writes_of_next entries i e inside here =
    ap writes_of (sym (take-map made_of (i + 1) entries) ∙ entries_next entries i e inside here ∙ ap (λ xs. xs ++ made_of e ∷ []) (take-map made_of i entries))
    ∙ fold_push (λ writes (m : Made). with_call writes m.call) [] (map made_of (take i entries)) (made_of e)

-- a sync has no bytes to keep
keep_sync : (keep : Keep) (before : Image) → keep_of keep before Sync ≡ before
keep_sync Old before = refl
keep_sync New before = refl
keep_sync Half before = refl

-- the choice for one more call
kept_with : (before : Image) (writes : List Call) (choice : List Keep) (call : Call)
    → kept before (with_call writes call) choice ≡ keep_of (unwrap_or (slice_get choice (length writes)) Old) (kept before writes choice) call
kept_with before writes choice (Write device place bytes) = kept_push before writes choice (Write device place bytes)
kept_with before writes choice Sync = sym (keep_sync (unwrap_or (slice_get choice (length writes)) Old) (kept before writes choice))

-- the choice for one more entry
pub kept_next : (before : Image) (entries : List Entry) (choice : List Keep) (i writes : ℕ) (d : Entry) → i < length entries
    → writes ≡ length (writes_of (map made_of (take i entries)))
    → kept before (writes_of (map made_of (take (i + 1) entries))) choice
    ≡ keep_of (unwrap_or (slice_get choice writes) Old) (kept before (writes_of (map made_of (take i entries))) choice) (made_of (get_or entries i d)).call
kept_next before entries choice i writes d inside count =
    let e : Entry = get_or entries i d in
    ap (λ ws. kept before ws choice) (writes_of_next entries i e inside (get_or_default entries i d e inside))
    ∙ rw count (kept_with before (writes_of (map made_of (take i entries))) choice (made_of e).call)

length_with : (writes : List Call) (call : Call) → length (with_call writes call) ≡ length writes + length (with_call [] call)
length_with writes (Write device place bytes) = grind (arith, common_steps)
length_with writes Sync = grind (arith, common_steps)

-- how many writes there are with one more entry
pub count_next : (entries : List Entry) (i : ℕ) (d : Entry) → i < length entries
    → length (writes_of (map made_of (take (i + 1) entries))) ≡ length (writes_of (map made_of (take i entries))) + length (with_call [] (made_of (get_or entries i d)).call)
count_next entries i d inside =
    let e : Entry = get_or entries i d in
    ap length (writes_of_next entries i e inside (get_or_default entries i d e inside))
    ∙ length_with (writes_of (map made_of (take i entries))) (made_of e).call

-- a test that passes a list passes each part of it
pub between_pass : (entries part : List Entry) (from to : ℕ) → part ≡ drop from (take to entries)
    → (test : Entry → Bool) → list_all test entries ≡ true → list_all test part ≡ true
between_pass entries part from to is test all =
    let front : list_all test (take to entries) ≡ true =
    (and_parts (list_all test (take to entries)) (list_all test (drop to entries))
    (sym (list_all-append test (take to entries) (drop to entries)) ∙ ap (list_all test) (take-append-drop to entries) ∙ all)).0 in
    rw is (and_parts (list_all test (take from (take to entries))) (list_all test (drop from (take to entries)))
    (sym (list_all-append test (take from (take to entries)) (drop from (take to entries))) ∙ ap (list_all test) (take-append-drop from (take to entries)) ∙ front)).1

-- the writes of a moment, from the last Ok sync before it
unsynced_found : (t : Tape) (moment last : ℕ) → IsLastSync t.calls moment last
    → ((m : Made) × (moment < length t.calls) × (slice_get t.calls moment ≡ Some m) × (get_or t.calls moment m ≡ m)) ⊎ ((length t.calls ≤ moment) × (slice_get t.calls moment ≡ None))
    → unsynced_at t moment ≡ writes_of (drop last (take (moment + 1) t.calls))
unsynced_found t moment last found (inr (past, none)) =
    ap (with_under_way (held t.start (take moment t.calls)).unsynced) none
    ∙ found.unsynced t.start
    ∙ ap (λ xs. writes_of (drop last xs)) (take_all moment t.calls past ∙ sym (take_all (moment + 1) t.calls (omega arith)))
unsynced_found t moment last found (inl (m, inside, some, here)) =
    let next : take (moment + 1) t.calls ≡ take moment t.calls ++ m ∷ [] =
    (take_at_read t.calls moment m inside).1 ∙ ap (λ x. take moment t.calls ++ x ∷ []) here in
    ap (with_under_way (held t.start (take moment t.calls)).unsynced) some
    ∙ ap (λ writes. with_call writes m.call) (found.unsynced t.start)
    ∙ sym (writes_next t.calls moment last m.call m.ok inside next found)

-- what a crash leaves, found by the last Ok sync and the writes since
pub left_by_found : (t : Tape) (moment last : ℕ) (choice : List Keep) → IsLastSync t.calls moment last
    → left_by t moment choice ≡ kept (held t.start (take last t.calls)).now (writes_of (drop last (take (moment + 1) t.calls))) choice
left_by_found t moment last choice found =
    ap (λ image. kept image (unsynced_at t moment) choice) (found.synced t.start)
    ∙ ap (λ writes. kept (held t.start (take last t.calls)).now writes choice) (unsynced_found t moment last found (slice_get_cases t.calls moment).1)

-- an image that is left is one that a crash may leave
pub left_allowed : (t : Tape) (moment : ℕ) (choice : List Keep) (image : Image) → image ≡ left_by t moment choice → Left t moment image
left_allowed t moment choice image e = λ d p apart. ap (λ f. f d p) e ∙ left_by_allowed t moment choice d p apart

-- the entries since the last Ok sync, with the call that is under way
pub entries_since : (entries part : List Entry) (moment last end : ℕ) → end ≡ min (moment + 1) (length entries) → part ≡ drop last (take end entries)
    → map made_of part ≡ drop last (take (moment + 1) (map made_of entries))
entries_since entries part moment last end at rest =
    let cut : take end entries ≡ take (moment + 1) entries = rw at (take_min (moment + 1) entries) in
    ap (map made_of) (rest ∙ ap (drop last) cut) ∙ sym (drop-map made_of last (take (moment + 1) entries))
    ∙ ap (drop last) (sym (take-map made_of (moment + 1) entries))

-- what is left, from the entries up to the last Ok sync and those since
pub left_by_entries : (t : Tape) (entries synced unsynced : List Entry) (moment last : ℕ) (choice : List Keep) → t.calls ≡ map made_of entries
    → IsLastSync (map made_of entries) moment last
    → synced ≡ take last entries → map made_of unsynced ≡ drop last (take (moment + 1) (map made_of entries))
    → kept (held t.start (map made_of synced)).now (writes_of (map made_of unsynced)) choice ≡ left_by t moment choice
left_by_entries t entries synced unsynced moment last choice calls found front rest =
    let before : map made_of synced ≡ take last t.calls = ap (map made_of) front ∙ sym (take-map made_of last entries) ∙ ap (take last) (sym calls) in
    let since : map made_of unsynced ≡ drop last (take (moment + 1) t.calls) = rest ∙ ap (λ xs. drop last (take (moment + 1) xs)) (sym calls) in
    ap (λ xs. kept (held t.start xs).now (writes_of (map made_of unsynced)) choice) before
    ∙ ap (λ xs. kept (held t.start (take last t.calls)).now (writes_of xs) choice) since
    ∙ sym (left_by_found t moment last choice (rw calls found))

-- a moment past the last call is as the last one
unsynced_within : (t : Tape) (moment : ℕ)
    → ((m : Made) × (moment < length t.calls) × (slice_get t.calls moment ≡ Some m) × (get_or t.calls moment m ≡ m)) ⊎ ((length t.calls ≤ moment) × (slice_get t.calls moment ≡ None))
    → unsynced_at t (min moment (length t.calls)) ≡ unsynced_at t moment
unsynced_within t moment (inl (m, inside, some, here)) = let same : min moment (length t.calls) ≡ moment = omega arith in ap (unsynced_at t) same
unsynced_within t moment (inr (past, none)) =
    let same : min moment (length t.calls) ≡ length t.calls = omega arith in
    ap (unsynced_at t) same ∙ unsynced_at_end t ∙ sym (unsynced_at_past t moment past)

-- how many writes a crash in a moment decides, from the entries since the last Ok sync
pub unsynced_counted : (t : Tape) (entries part : List Entry) (moment count last : ℕ) → t.calls ≡ map made_of entries
    → count ≡ min moment (length entries) → IsLastSync (map made_of entries) count last
    → map made_of part ≡ drop last (take (count + 1) (map made_of entries))
    → length (writes_of (map made_of part)) ≡ length (unsynced_at t moment)
unsynced_counted t entries part moment count last calls inner found rest =
    let since : map made_of part ≡ drop last (take (count + 1) t.calls) = rest ∙ ap (λ xs. drop last (take (count + 1) xs)) (sym calls) in
    let same : count ≡ min moment (length t.calls) = inner ∙ ap (min moment) (sym (length-map entries made_of) ∙ ap length (sym calls)) in
    ap (λ xs. length (writes_of xs)) since
    ∙ ap length (sym (unsynced_found t count last (rw calls found) (slice_get_cases t.calls count).1)
    ∙ ap (unsynced_at t) same ∙ unsynced_within t moment (slice_get_cases t.calls moment).1)
