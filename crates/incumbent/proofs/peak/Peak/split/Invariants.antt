use Rattle.incumbent.proofs.peak.Peak.split.Given as goal

abbrev pub ghosts-split_seat : goal.ghosts-split_seat
ghosts-split_seat g a = record { worth = a.worth }
