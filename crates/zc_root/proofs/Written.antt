-- How the bytes of a body are written, piece by piece.
use Rattle.std.proofs.Common.{◌≡◌, ℕ, ◌+◌, ◌≤◌, List, [], ◌++◌, length, take, drop, sym, ap, ◌∙◌, append_assoc, length-append, arith}
use Rattle.std.proofs.lemmas.List.{take_at, append-nil, nil_from_length, length-drop}
use Rattle.zc_wire.specs.Numbers.{u32_bytes, u64_bytes}
use Rattle.zc_root.specs.declared.body.Body.{Body}
use Rattle.zc_root.specs.Body.{title, head_bytes}
use Rattle.zc_root.proofs.BodyLaws.{title_length}

-- bytes that are written over the last of a list
pub over_the_last : (a k : ℕ) (bytes put : List ℕ) → length bytes ≤ a + k → take a bytes ++ (put ++ drop k (drop a bytes)) ≡ take a bytes ++ put
over_the_last a k bytes put fits =
    let none : drop k (drop a bytes) ≡ [] = nil_from_length (drop k (drop a bytes)) (omega (arith, length-drop k (drop a bytes), length-drop a bytes)) in
    ap (λ (t : List ℕ). take a bytes ++ (put ++ t)) none ∙ ap (λ (t : List ℕ). take a bytes ++ t) (append-nil put)

-- two parts, written one after the other over all of a list
pub two_written : (n k : ℕ) (bytes first second front back : List ℕ) → length bytes ≡ n + k → length front ≡ n → first ≡ front → second ≡ back
    → take n (first ++ drop n bytes) ++ (second ++ drop k (drop n (first ++ drop n bytes))) ≡ front ++ back
two_written n k bytes first second front back len front_len first_is second_is =
    let first_len : length first ≡ n = ap length first_is ∙ front_len in
    let all : length (first ++ drop n bytes) ≤ n + k = omega (arith, length-append first (drop n bytes), length-drop n bytes) in
    over_the_last n k (first ++ drop n bytes) second all ∙ ap (λ (t : List ℕ). t ++ second) (take_at first (drop n bytes) n first_len) ∙ (λ i. first_is i ++ second_is i)

-- the head, written piece by piece, each after the one before
pub head_written : (body : Body) (opening b1 b2 b3 b4 b5 b6 b7 b8 b9 b10 : List ℕ)
    → opening ≡ title → take (0 + length opening) b1 ≡ opening
    → take 20 b2 ≡ take 12 b1 ++ u64_bytes body.pool → take 28 b3 ≡ take 20 b2 ++ u64_bytes body.group
    → take 32 b4 ≡ take 28 b3 ++ u32_bytes body.devices → take 36 b5 ≡ take 32 b4 ++ u32_bytes body.places
    → take 44 b6 ≡ take 36 b5 ++ u64_bytes body.next_dataset → take 48 b7 ≡ take 44 b6 ++ u32_bytes body.first_device
    → take 52 b8 ≡ take 48 b7 ++ u32_bytes body.first_place → take 56 b9 ≡ take 52 b8 ++ u32_bytes body.chain
    → take 64 b10 ≡ take 56 b9 ++ u64_bytes body.length
    → take 64 b10 ++ body.digest ≡ head_bytes body
unfolding head_bytes
head_written body opening b1 b2 b3 b4 b5 b6 b7 b8 b9 b10 opens e1 e2 e3 e4 e5 e6 e7 e8 e9 e10 =
    let len : length opening ≡ 12 = ap length opens ∙ title_length in
    let f1 : take 12 b1 ≡ title = ap (λ (n : ℕ). take (0 + n) b1) (sym len) ∙ e1 ∙ opens in
    let f2 : take 20 b2 ≡ title ++ u64_bytes body.pool = e2 ∙ ap (λ (t : List ℕ). t ++ u64_bytes body.pool) f1 in
    let f3 = e3 ∙ ap (λ (t : List ℕ). t ++ u64_bytes body.group) f2 in
    let f4 = e4 ∙ ap (λ (t : List ℕ). t ++ u32_bytes body.devices) f3 in
    let f5 = e5 ∙ ap (λ (t : List ℕ). t ++ u32_bytes body.places) f4 in
    let f6 = e6 ∙ ap (λ (t : List ℕ). t ++ u64_bytes body.next_dataset) f5 in
    let f7 = e7 ∙ ap (λ (t : List ℕ). t ++ u32_bytes body.first_device) f6 in
    let f8 = e8 ∙ ap (λ (t : List ℕ). t ++ u32_bytes body.first_place) f7 in
    let f9 = e9 ∙ ap (λ (t : List ℕ). t ++ u32_bytes body.chain) f8 in
    let f10 = e10 ∙ ap (λ (t : List ℕ). t ++ u64_bytes body.length) f9 in
    ap (λ (t : List ℕ). t ++ body.digest) f10 ∙ simp append_assoc
