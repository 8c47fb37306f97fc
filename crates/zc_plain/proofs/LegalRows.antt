-- A history that is legal: a dataset is made, and a commit is answered once its group is finished.
use Rattle.std.specs.Prelude.{◌≡◌, refl, ℕ, [], ◌∷◌, None, codes, List}
use Rattle.zc_num.specs.declared.limits.Limits.{Limits}
use Rattle.zc_command.specs.declared.command.Command.TheVariants.{Mkds, Commit}
use Rattle.zc_command.specs.declared.reply.Reply.TheVariants.{Done}
use Rattle.zc_plain.specs.declared.entry.Entry.{Entry}
use Rattle.zc_plain.specs.declared.entry.Entry.TheVariants.{Ask, Answer, Seal, Finish}
use Rattle.zc_plain.specs.PlainPool.{new_pool}
use Rattle.zc_plain.specs.Charge.{with_each, held_by, stamps_of}
use Rattle.zc_plain.specs.Answer.{answer, mkds, dataset_place, blocks_of_command}
use Rattle.zc_plain.specs.History.{step, reply_of}
use Rattle.zc_plain.specs.Legal.{IsLegal, Wait, progress}

abbrev made_and_committed : List Entry
made_and_committed =
    Ask 0 (Mkds (codes "d")) ∷ Answer 0 Done ∷ Ask 0 Commit ∷ Seal 3 ∷ Finish 3 0 ∷ Answer 0 Done ∷ []

pub legal_row : (limits : Limits) → IsLegal (new_pool limits) 2 None made_and_committed
unfolding progress step reply_of answer mkds dataset_place blocks_of_command with_each held_by stamps_of
legal_row limits = ((refl, refl), ((refl, refl), ((refl, refl), (refl, ((refl, refl, refl), ((record { session = 0; group = 3 }, refl, (refl, refl)), tt))))))
