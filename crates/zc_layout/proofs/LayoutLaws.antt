-- The laws of layouts: which places they own, and when an image holds one.
use Rattle.std.proofs.Common.{◌≡◌, ℕ, ◌≤◌, ◌⊎◌, ◌||◌, Bool, true, false, true≢false, List, [], ◌∷◌, ◌++◌, length, map, refl, sym, ap, ap₂, ◌∙◌, subst, inl, inr, ⊎_elim, arith}
use Rattle.zc_num.specs.declared.numbers.PlaceAt.{PlaceAt}
use Rattle.zc_tape.specs.Tape.{Image, Call, is_at, with_bytes}
use Rattle.zc_tape.specs.Crash.{May, SameOutside, writes_at}
use Rattle.zc_tape.specs.After.{after, AreWrites}
use Rattle.zc_tape.proofs.Places.{neither, both_false, not_true, or_assoc, is_at_here, is_at_means, with_bytes_there, with_bytes_elsewhere}
use Rattle.zc_tape.proofs.ReadsAfter.{after_elsewhere}
use Rattle.zc_layout.specs.Layout.{Put, Holds, owns, IsAmong, Agrees, AreDistinct, NotAtRoots, at_places, has_place, AreApart}
use Rattle.zc_layout.specs.Standing.{write_of, Covers}

-- ---- disjunctions

or_left : (a b : Bool) → a ≡ true → (a || b) ≡ true
or_left a b e = rw e

or_right : (a b : Bool) → b ≡ true → (a || b) ≡ true
or_right true b e = refl
or_right false b e = e

-- one side holds
or_means : (a b : Bool) → (a || b) ≡ true → (a ≡ true) ⊎ (b ≡ true)
or_means true b e = inl refl
or_means false b e = inr e

-- ---- which places a layout owns

-- the place of its first put
pub owns_first : (put : Put) (puts : List Put) → owns (put ∷ puts) put.at.device put.at.place ≡ true
owns_first put puts = or_left (is_at put.at.device put.at.place put.at.device put.at.place) (owns puts put.at.device put.at.place) (is_at_here put.at.device put.at.place)

-- the places of the rest
pub owns_after : (put : Put) (puts : List Put) (d p : ℕ) → owns puts d p ≡ true → owns (put ∷ puts) d p ≡ true
owns_after put puts d p e = or_right (is_at put.at.device put.at.place d p) (owns puts d p) e

-- the places of both lists
pub owns_append : (xs ys : List Put) (d p : ℕ) → owns (xs ++ ys) d p ≡ (owns xs d p || owns ys d p)
owns_append [] ys d p = refl
owns_append (put ∷ xs) ys d p =
    ap (λ rest. is_at put.at.device put.at.place d p || rest) (owns_append xs ys d p) ∙ or_assoc (is_at put.at.device put.at.place d p) (owns xs d p) (owns ys d p)

-- no put of two lists is at the place
pub owns_neither : (xs ys : List Put) (d p : ℕ) → owns (xs ++ ys) d p ≡ false → (owns xs d p ≡ false) × (owns ys d p ≡ false)
owns_neither xs ys d p e = neither (owns xs d p) (owns ys d p) (sym (owns_append xs ys d p) ∙ e)

-- the same, from both lists
pub owns_not_both : (xs ys : List Put) (d p : ℕ) → owns xs d p ≡ false → owns ys d p ≡ false → owns (xs ++ ys) d p ≡ false
owns_not_both xs ys d p ex ey = owns_append xs ys d p ∙ both_false (owns xs d p) (owns ys d p) ex ey

-- a place of two lists is one of either
pub owns_either : (xs ys : List Put) (d p : ℕ) → owns (xs ++ ys) d p ≡ true → (owns xs d p ≡ true) ⊎ (owns ys d p ≡ true)
owns_either xs ys d p e = or_means (owns xs d p) (owns ys d p) (sym (owns_append xs ys d p) ∙ e)

-- two places of which a layout owns one alone are two
pub owns_other : (puts : List Put) (device place d p : ℕ) → owns puts device place ≡ false → owns puts d p ≡ true → is_at device place d p ≡ false
owns_other puts device place d p free owned =
    not_true (is_at device place d p) (λ e.
    let same : (device ≡ d) × (place ≡ p) = is_at_means device place d p e
    in true≢false (sym owned ∙ sym (ap₂ (owns puts) same.0 same.1) ∙ free))

-- two lists at different places, and no two puts of either at one, are one such list
pub distinct_append : (xs ys : List Put) → AreDistinct xs → AreDistinct ys → ((d p : ℕ) → owns xs d p ≡ true → owns ys d p ≡ false) → AreDistinct (xs ++ ys)
distinct_append [] ys dx dy apart = dy
distinct_append (put ∷ xs) ys dx dy apart = (
  owns_not_both xs ys put.at.device put.at.place dx.0 (apart put.at.device put.at.place (owns_first put xs)),
  distinct_append xs ys dx.1 dy (λ d p e. apart d p (owns_after put xs d p e)),
)

-- ---- blocks at places

-- no block at a place that isn't one of them
pub owns_at_places_within : (places : List PlaceAt) (blocks : List (List ℕ)) (d p : ℕ) → has_place places d p ≡ false → owns (at_places places blocks) d p ≡ false
owns_at_places_within [] blocks d p e = refl
owns_at_places_within (at ∷ places) [] d p e = refl
owns_at_places_within (at ∷ places) (block ∷ blocks) d p e =
    let parts : (is_at at.device at.place d p ≡ false) × (has_place places d p ≡ false) = neither (is_at at.device at.place d p) (has_place places d p) e
    in both_false (is_at at.device at.place d p) (owns (at_places places blocks) d p) parts.0 (owns_at_places_within places blocks d p parts.1)

-- and where there is a block for each, all of them
pub owns_at_places : (places : List PlaceAt) (blocks : List (List ℕ)) (d p : ℕ) → length places ≤ length blocks → owns (at_places places blocks) d p ≡ has_place places d p
owns_at_places [] blocks d p enough = refl
owns_at_places (at ∷ places) [] d p enough = absurd (omega arith)
owns_at_places (at ∷ places) (block ∷ blocks) d p enough = ap (λ rest. is_at at.device at.place d p || rest) (owns_at_places places blocks d p (omega arith))

-- no two at one place, where no two of the places are one
pub distinct_at_places : (places : List PlaceAt) (blocks : List (List ℕ)) → AreApart places → AreDistinct (at_places places blocks)
distinct_at_places [] blocks apart = tt
distinct_at_places (at ∷ places) [] apart = tt
distinct_at_places (at ∷ places) (block ∷ blocks) apart = (owns_at_places_within places blocks at.device at.place apart.0, distinct_at_places places blocks apart.1)

-- places and blocks in two parts
pub at_places_append : (places more : List PlaceAt) (blocks others : List (List ℕ)) → length places ≡ length blocks
    → at_places (places ++ more) (blocks ++ others) ≡ at_places places blocks ++ at_places more others
at_places_append [] more [] others e = refl
at_places_append [] more (block ∷ blocks) others e = absurd (omega arith)
at_places_append (at ∷ places) more [] others e = absurd (omega arith)
at_places_append (at ∷ places) more (block ∷ blocks) others e = ap (λ rest. record { at = at; bytes = block } ∷ rest) (at_places_append places more blocks others (omega arith))

-- an image holds what it has at these places
pub holds_what_is_there : (image : Image) (places : List PlaceAt) → Holds image (at_places places (map (λ at. image at.device at.place) places))
holds_what_is_there image [] = tt
holds_what_is_there image (at ∷ places) = (refl, holds_what_is_there image places)

-- ---- what an image holds

-- the frame: an image that agrees with one at the places of a layout holds what that one holds
pub holds_where_agrees : (before later : Image) (puts : List Put) → Agrees puts before later → Holds before puts → Holds later puts
holds_where_agrees before later [] agrees holds = tt
holds_where_agrees before later (put ∷ puts) agrees holds = (
  agrees put.at.device put.at.place (owns_first put puts) ∙ holds.0,
  holds_where_agrees before later puts (λ d p e. agrees d p (owns_after put puts d p e)) holds.1,
)

-- both of two lists
pub holds_append : (image : Image) (xs ys : List Put) → Holds image xs → Holds image ys → Holds image (xs ++ ys)
holds_append image [] ys hx hy = hy
holds_append image (put ∷ xs) ys hx hy = (hx.0, holds_append image xs ys hx.1 hy)

-- and back
pub holds_parts : (image : Image) (xs ys : List Put) → Holds image (xs ++ ys) → Holds image xs × Holds image ys
holds_parts image [] ys holds = (tt, holds)
holds_parts image (put ∷ xs) ys holds =
    let rest : Holds image xs × Holds image ys = holds_parts image xs ys holds.1
    in ((holds.0, rest.0), rest.1)

-- each put of the list
pub holds_among : (image : Image) (put : Put) (puts : List Put) → IsAmong put puts → Holds image puts → image put.at.device put.at.place ≡ put.bytes
holds_among image put [] among holds = absurd among
holds_among image put (other ∷ puts) (inl e) holds = subst (λ (one : Put). image one.at.device one.at.place ≡ one.bytes) (sym e) holds.0
holds_among image put (other ∷ puts) (inr later) holds = holds_among image put puts later holds.1

-- a write elsewhere leaves it
pub holds_written_elsewhere : (image : Image) (puts : List Put) (device place : ℕ) (bytes : List ℕ) → owns puts device place ≡ false → Holds image puts → Holds (with_bytes image device place bytes) puts
holds_written_elsewhere image puts device place bytes free holds =
    holds_where_agrees image (with_bytes image device place bytes) puts (λ d p e. with_bytes_elsewhere image device place bytes d p (owns_other puts device place d p free e)) holds

-- and so does any other change of one place elsewhere
pub holds_same_outside : (before later : Image) (puts : List Put) (device place : ℕ) → owns puts device place ≡ false → SameOutside device place before later → Holds before puts → Holds later puts
holds_same_outside before later puts device place free same holds =
    holds_where_agrees before later puts (λ d p e. same d p (owns_other puts device place d p free e)) holds

-- what a crash may leave of writes elsewhere
pub holds_left : (synced image : Image) (puts : List Put) (writes : List Call) → ((d p : ℕ) → owns puts d p ≡ true → writes_at writes d p ≡ false) → May synced writes image → Holds synced puts → Holds image puts
holds_left synced image puts writes beside may holds = holds_where_agrees synced image puts (λ d p e. may d p (beside d p e)) holds

-- ---- puts as writes

-- each put is a write
pub are_writes_of_puts : (puts : List Put) → AreWrites (map write_of puts)
are_writes_of_puts [] = tt
are_writes_of_puts (put ∷ puts) = are_writes_of_puts puts

-- they write the places that the puts own
pub writes_of_puts : (puts : List Put) (d p : ℕ) → writes_at (map write_of puts) d p ≡ owns puts d p
writes_of_puts [] d p = refl
writes_of_puts (put ∷ puts) d p = ap (λ rest. is_at put.at.device put.at.place d p || rest) (writes_of_puts puts d p)

-- and no other place
pub after_puts_elsewhere : (image : Image) (puts : List Put) (d p : ℕ) → owns puts d p ≡ false → after image (map write_of puts) d p ≡ image d p
after_puts_elsewhere image puts d p e = after_elsewhere image (map write_of puts) d p (writes_of_puts puts d p ∙ e)

-- afterwards the image holds them, where no two are at one place
pub holds_after_puts : (image : Image) (puts : List Put) → AreDistinct puts → Holds (after image (map write_of puts)) puts
holds_after_puts image [] distinct = tt
holds_after_puts image (put ∷ puts) distinct = (
  after_puts_elsewhere (with_bytes image put.at.device put.at.place put.bytes) puts put.at.device put.at.place distinct.0
      ∙ with_bytes_there image put.at.device put.at.place put.bytes put.at.device put.at.place (is_at_here put.at.device put.at.place),
  holds_after_puts (with_bytes image put.at.device put.at.place put.bytes) puts distinct.1,
)

-- and it holds what it held elsewhere
pub holds_beside_puts : (image : Image) (held puts : List Put) → ((d p : ℕ) → owns held d p ≡ true → owns puts d p ≡ false) → Holds image held → Holds (after image (map write_of puts)) held
holds_beside_puts image held puts beside holds =
    holds_where_agrees image (after image (map write_of puts)) held (λ d p e. after_puts_elsewhere image puts d p (beside d p e)) holds

-- ---- covers

-- what is covered by puts that the image holds, it holds
pub covers_holds : (image : Image) (wanted puts old : List Put) → Covers wanted puts old → Holds image puts → Holds image old → Holds image wanted
covers_holds image [] puts old covers now before = tt
covers_holds image (put ∷ wanted) puts old covers now before = (
  ⊎_elim (λ among. holds_among image put puts among now) (λ among. holds_among image put old among before) covers.0,
  covers_holds image wanted puts old covers.1 now before,
)

-- each wanted put is one of the others
pub covers_among : (wanted puts old : List Put) (put : Put) → Covers wanted puts old → IsAmong put wanted → IsAmong put puts ⊎ IsAmong put old
covers_among [] puts old put covers among = absurd among
covers_among (other ∷ wanted) puts old put covers (inl e) = subst (λ one. IsAmong one puts ⊎ IsAmong one old) (sym e) covers.0
covers_among (other ∷ wanted) puts old put covers (inr later) = covers_among wanted puts old put covers.1 later

-- and that is all that it says
pub covers_from_among : (wanted puts old : List Put) → ((put : Put) → IsAmong put wanted → IsAmong put puts ⊎ IsAmong put old) → Covers wanted puts old
covers_from_among [] puts old each = tt
covers_from_among (put ∷ wanted) puts old each = (each put (inl refl), covers_from_among wanted puts old (λ other among. each other (inr among)))

-- wanted puts in two parts
pub covers_append : (xs ys puts old : List Put) → Covers xs puts old → Covers ys puts old → Covers (xs ++ ys) puts old
covers_append [] ys puts old cx cy = cy
covers_append (put ∷ xs) ys puts old cx cy = (cx.0, covers_append xs ys puts old cx.1 cy)

-- a put of one of two lists
pub among_front : (put : Put) (xs ys : List Put) → IsAmong put xs → IsAmong put (xs ++ ys)
among_front put [] ys among = absurd among
among_front put (other ∷ xs) ys (inl e) = inl e
among_front put (other ∷ xs) ys (inr later) = inr (among_front put xs ys later)

pub among_back : (put : Put) (xs ys : List Put) → IsAmong put ys → IsAmong put (xs ++ ys)
among_back put [] ys among = among
among_back put (other ∷ xs) ys among = inr (among_back put xs ys among)

-- the place of a put of the list is one of its places
pub among_owns : (put : Put) (puts : List Put) (d p : ℕ) → IsAmong put puts → is_at put.at.device put.at.place d p ≡ true → owns puts d p ≡ true
among_owns put [] d p among here = absurd among
among_owns put (other ∷ puts) d p (inl e) here = or_left (is_at other.at.device other.at.place d p) (owns puts d p) (subst (λ (one : Put). is_at one.at.device one.at.place d p ≡ true) e here)
among_owns put (other ∷ puts) d p (inr later) here = owns_after other puts d p (among_owns put puts d p later here)

-- a place that neither list owns is none of what they cover
pub covers_free : (wanted puts old : List Put) (d p : ℕ) → Covers wanted puts old → owns puts d p ≡ false → owns old d p ≡ false → owns wanted d p ≡ false
covers_free [] puts old d p covers now before = refl
covers_free (put ∷ wanted) puts old d p covers now before =
    both_false (is_at put.at.device put.at.place d p) (owns wanted d p)
    (not_true (is_at put.at.device put.at.place d p) (λ here.
    ⊎_elim (λ among. true≢false (sym (among_owns put puts d p among here) ∙ now)) (λ among. true≢false (sym (among_owns put old d p among here) ∙ before)) covers.0))
    (covers_free wanted puts old d p covers.1 now before)

-- so what they cover is beside the roots where they are
pub covers_beside_roots : (wanted puts old : List Put) → Covers wanted puts old → NotAtRoots puts → NotAtRoots old → NotAtRoots wanted
covers_beside_roots wanted puts old covers now before place low = covers_free wanted puts old 0 place covers (now place low) (before place low)
