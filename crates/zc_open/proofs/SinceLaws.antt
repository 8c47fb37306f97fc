-- Whether files were changed since the last seal, after one entry or two more.
use Rattle.std.proofs.Common.{◌≡◌, ℕ, Bool, true, false, ◌||◌, List, [], ◌∷◌, ◌++◌, fold, Some, None, refl, ap, ◌∙◌}
use Rattle.std.proofs.lemmas.List.Sums.{fold-append}
use Rattle.zc_command.specs.declared.command.Command.{Command}
use Rattle.zc_command.specs.declared.reply.Reply.{Reply}
use Rattle.zc_plain.specs.declared.entry.Entry.{Entry}
use Rattle.zc_plain.specs.declared.entry.Entry.TheVariants.{Ask, Answer, Seal, Finish}
use Rattle.zc_open.specs.Since.{Since, is_changed_by, since_entry, since_after}

-- nothing is asked, and this is whether a change was answered
abbrev pub settled_since : Bool → Since
settled_since changed = record { asked = None; changed = changed }

-- after more entries
abbrev since_later : Since → List Entry → Since
since_later since more = fold since_entry since more

-- a history in two parts
since_append : (front back : List Entry) (since : Since) → since_after front ≡ since → since_after (front ++ back) ≡ since_later since back
since_append front back since is = fold-append since_entry (settled_since false) front back ∙ ap (λ (behind : Since). since_later behind back) is

-- a command was asked and answered
pub since_asked : (history : List Entry) (changed : Bool) (session : ℕ) (command : Command) (reply : Reply) → since_after history ≡ settled_since changed
    → since_after (history ++ Ask session command ∷ Answer session reply ∷ []) ≡ settled_since (changed || is_changed_by (Some command) reply)
since_asked history changed session command reply is = since_append history (Ask session command ∷ Answer session reply ∷ []) (settled_since changed) is

-- a command was asked, and a group was sealed for it
pub since_sealed : (history : List Entry) (changed : Bool) (session group : ℕ) (command : Command) → since_after history ≡ settled_since changed
    → since_after (history ++ Ask session command ∷ Seal group ∷ []) ≡ settled_since false
since_sealed history changed session group command is = since_append history (Ask session command ∷ Seal group ∷ []) (settled_since changed) is

or_false : (a : Bool) → (a || false) ≡ a
or_false true = refl
or_false false = refl

-- a wait has ended
pub since_answered : (history : List Entry) (changed : Bool) (session : ℕ) (reply : Reply) → since_after history ≡ settled_since changed
    → since_after (history ++ Answer session reply ∷ []) ≡ settled_since changed
since_answered history changed session reply is = since_append history (Answer session reply ∷ []) (settled_since changed) is ∙ ap settled_since (or_false changed)

-- a group was finished
pub since_finished : (history : List Entry) (changed : Bool) (group held : ℕ) → since_after history ≡ settled_since changed
    → since_after (history ++ Finish group held ∷ []) ≡ settled_since changed
since_finished history changed group held is = since_append history (Finish group held ∷ []) (settled_since changed) is
