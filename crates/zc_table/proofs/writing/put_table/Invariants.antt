use Rattle.zc_table.proofs.writing.put_table.Given as goal

abbrev pub ghosts-put_parts : goal.ghosts-put_parts
ghosts-put_parts g a = record { name = a.blank.name; parts = a.blank.parts }
