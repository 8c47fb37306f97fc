-- What a charge is counted from.
use Rattle.std.proofs.Common.{◌≡◌, ℕ, ◌+◌, ◌^◌, ◌≤◌, ◌==◌, nat_lt, Bool, true, false, List, [], ◌∷◌, length, replicate, Result, Ok, Err, refl, sym, subst, ⊎_elim, arith}
use Rattle.std.specs.Prelude.{filter, if◌then◌else◌}
use Rattle.std.specs.List.{list_any}
use Rattle.std.proofs.lemmas.Bool.{cases_Bool, ltb-false}
use Rattle.std.proofs.lemmas.List.{length-append, length-replicate}
use Rattle.zc_command.specs.declared.command.Command.{Command}
use Rattle.zc_command.specs.declared.command.Command.TheVariants.{Mkds, Rmds, Mount, Create, Remove, Write, Fill, Truncate, Read, Stat, Commit}
use Rattle.zc_command.specs.declared.refusal.Refusal.{Refusal}
use Rattle.zc_command.specs.declared.reply.Reply.{Reply}
use Rattle.zc_command.specs.declared.reply.Reply.TheVariants.{Done, Count}
use Rattle.zc_plain.specs.declared.finding.Path.{Path}
use Rattle.zc_plain.specs.declared.plain_pool.PlainPool.{PlainPool}
use Rattle.zc_plain.specs.declared.tally.MadeBlock.{MadeBlock}
use Rattle.zc_plain.specs.declared.tally.Tally.{Tally}
use Rattle.zc_plain.specs.PlainPool.{in_file}
use Rattle.zc_plain.specs.Truncated.{truncated}
use Rattle.zc_plain.specs.Charge.{is_block, with_one, with_each, with_blocks, with_finish, seals_up_to, is_after, charge_of}
use Rattle.zc_plain.specs.Answer.{◌>>=◌, refuse_long, refuse_end, refuse_charge, most_charge, room_in_file, path_of, put_some, put, write, fill, truncate, blocks_touched, blocks_trimmed, blocks_on, blocks_put, blocks_of_command, counted, named_answer, answer}
use Rattle.zc_plain.specs.IsPlain.{IsTally}
use Rattle.zc_plain.specs.History.{tally_after}
use Rattle.zc_plain.proofs.PlainLaws.{after_test, after_found}

-- a command that makes no block leaves what is counted
pub nothing_counted : (tally : Tally) (given : Result (Reply × PlainPool) Refusal) → counted tally [] given ≡ tally
unfolding with_each
nothing_counted tally (Ok done) = refl
nothing_counted tally (Err refusal) = refl

-- one more item is one more at most, and none goes
one_more : {X : Type 0} (same : X → X → Bool) (items : List X) (item : X) → (length items ≤ length (with_one same items item)) × (length (with_one same items item) ≤ length items + 1)
one_more same items item =
    ⊎_elim
    (λ (there : list_any (same item) items ≡ true). rw there (omega arith, omega arith))
    (λ (new : list_any (same item) items ≡ false). rw (new, length-append) (omega arith, omega arith))
    (cases_Bool (list_any (same item) items))

-- so with more items there are at least as many as before, and at most all of them
pub as_many_each : {X : Type 0} (same : X → X → Bool) (items more : List X) → (length items ≤ length (with_each same items more)) × (length (with_each same items more) ≤ length items + length more)
unfolding with_each
as_many_each same items [] = (omega arith, omega arith)
as_many_each same items (item ∷ more) =
    let one = one_more same items item in
    let rest = as_many_each same (with_one same items item) more in
    (omega (arith, one.0, rest.0), omega (arith, one.1, rest.1))

-- blocks that are made never lower the charge
pub charge_grows : (tally : Tally) (blocks : List MadeBlock) (given : Result (Reply × PlainPool) Refusal) → charge_of tally ≤ charge_of (counted tally blocks given)
charge_grows tally blocks (Ok done) = omega (arith, (as_many_each is_block tally.made blocks).0)
charge_grows tally blocks (Err refusal) = omega arith

-- the data places of a pool are fewer than all of its places
few_data_places : (pool : PlainPool) → most_charge pool ≤ 131072
few_data_places pool = omega (arith, pool.limits.are_limits.few_places)

-- blocks that the pool may be charged for are few
few_once_made : (tally : Tally) (blocks : List MadeBlock) (pool : PlainPool) → IsTally tally → nat_lt (most_charge pool) (charge_of (with_blocks blocks tally)) ≡ false → IsTally (with_blocks blocks tally)
few_once_made tally blocks pool is few = record {
  held = is.held;
  few = omega (arith, ltb-false (most_charge pool) (charge_of (with_blocks blocks tally)) few, few_data_places pool);
}

few_unless_made : (tally : Tally) (given : Result (Reply × PlainPool) Refusal) → IsTally tally → IsTally (counted tally [] given)
few_unless_made tally given is = subst IsTally (sym (nothing_counted tally given)) is

-- what is counted stays small after a write
few_after_put : (number offset : ℕ) (bytes : List ℕ) (tally : Tally) (pool : PlainPool) (found : Result Path Refusal) → IsTally tally
    → IsTally (counted tally (if length bytes == 0 then [] else blocks_on found (λ path. blocks_touched tally offset (length bytes) path pool)) (found >>= (λ path. put number path offset bytes tally pool)))
unfolding put put_some
few_after_put number offset bytes tally pool (Err refusal) is = is
few_after_put number offset bytes tally pool (Ok path) is =
    let blocks = blocks_touched tally offset (length bytes) path pool in
    ⊎_elim
    (λ (empty : (length bytes == 0) ≡ true). rw empty (few_unless_made tally (Ok (Count 0, pool)) is))
    (λ (full : (length bytes == 0) ≡ false).
    rw full (after_found (λ r. IsTally (counted tally blocks r)) (room_in_file offset (length bytes) path pool) _ (λ refusal. is)
    (λ _ room. after_test (λ r. IsTally (counted tally blocks r)) (nat_lt (most_charge pool) (charge_of (with_blocks blocks tally))) _ _ is
    (λ few. few_once_made tally blocks pool is few))))
    (cases_Bool (length bytes == 0))

-- and after a truncation
few_after_trimmed : (number size : ℕ) (tally : Tally) (pool : PlainPool) (found : Result Path Refusal) → IsTally tally
    → IsTally (counted tally (blocks_on found (λ path. blocks_trimmed tally size path pool))
    (found >>= (λ path. refuse_end size pool >>= (λ _. refuse_charge (blocks_trimmed tally size path pool) tally pool >>= (λ _. Ok (Done, in_file path (truncated number size) pool))))))
few_after_trimmed number size tally pool (Err refusal) is = is
few_after_trimmed number size tally pool (Ok path) is =
    let blocks = blocks_trimmed tally size path pool in
    after_found (λ r. IsTally (counted tally blocks r)) (refuse_end size pool) _ (λ refusal. is)
    (λ _ short. after_test (λ r. IsTally (counted tally blocks r)) (nat_lt (most_charge pool) (charge_of (with_blocks blocks tally))) _ _ is
    (λ few. few_once_made tally blocks pool is few))

few_after_named : (number : ℕ) (tally : Tally) (pool : PlainPool) (command : Command) → IsTally tally → IsTally (counted tally (blocks_of_command tally pool command) (named_answer number tally pool command))
unfolding blocks_of_command write fill truncate
few_after_named number tally pool (Mkds dataset) is = few_unless_made tally _ is
few_after_named number tally pool (Rmds dataset) is = few_unless_made tally _ is
few_after_named number tally pool (Mount dataset) is = few_unless_made tally _ is
few_after_named number tally pool (Create dataset file) is = few_unless_made tally _ is
few_after_named number tally pool (Remove dataset file) is = few_unless_made tally _ is
few_after_named number tally pool (Write dataset file offset bytes) is = few_after_put number offset bytes tally pool (path_of dataset file pool) is
few_after_named number tally pool (Fill dataset file offset len byte) is =
    let many : length (replicate len byte) ≡ len = length-replicate {A = ℕ} len byte in
    subst (λ (n : ℕ). IsTally (counted tally (blocks_put tally offset n dataset file pool) (path_of dataset file pool >>= (λ path. put number path offset (replicate len byte) tally pool)))) many
    (few_after_put number offset (replicate len byte) tally pool (path_of dataset file pool) is)
few_after_named number tally pool (Truncate dataset file size) is = few_after_trimmed number size tally pool (path_of dataset file pool) is
few_after_named number tally pool (Read dataset file offset len) is = few_unless_made tally _ is
few_after_named number tally pool (Stat dataset file) is = few_unless_made tally _ is
few_after_named number tally pool Commit is = few_unless_made tally (named_answer number tally pool Commit) is

-- what is counted stays small after each command
pub few_after : (number : ℕ) (tally : Tally) (pool : PlainPool) (command : Command) → IsTally tally → IsTally (counted tally (blocks_of_command tally pool command) (answer number tally pool command))
unfolding answer
few_after number tally pool command is =
    after_found (λ r. IsTally (counted tally (blocks_of_command tally pool command) r)) (refuse_long command) _ (λ refusal. is) (λ _ short. few_after_named number tally pool command is)

-- and after the finish of a group
pub few_after_finish : (group held : ℕ) (tally : Tally) → held ≤ 2 ^ 62 → IsTally tally → IsTally (with_finish group held tally)
unfolding with_finish
few_after_finish group held tally fits is = record {
  held = fits;
  few = omega (arith, is.few, length-filter_le (is_after (seals_up_to group tally.sealed)) tally.made);
}
  where
    length-filter_le : {X : Type 0} (p : X → Bool) (xs : List X) → length (filter p xs) ≤ length xs
    length-filter_le p [] = omega arith
    length-filter_le p (x ∷ xs) =
        let rest = length-filter_le p xs in
        ⊎_elim (λ (passes : p x ≡ true). rw passes (omega (arith, rest))) (λ (fails : p x ≡ false). rw fails (omega (arith, rest))) (cases_Bool (p x))

-- no command lowers the charge
pub no_command_lowers_charge : (number : ℕ) (tally : Tally) (pool : PlainPool) (command : Command) → charge_of tally ≤ charge_of (tally_after number tally pool command)
no_command_lowers_charge number tally pool command = charge_grows tally (blocks_of_command tally pool command) (answer number tally pool command)
