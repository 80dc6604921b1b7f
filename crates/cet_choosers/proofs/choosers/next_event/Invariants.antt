use Rattle.std.proofs.Common.{List, Option, reverse, map, length}
use Rattle.cet_process.specs.declared.event.Event.{Event}
use Rattle.cet_process.specs.Chosen.{Plan}
use Rattle.cet_choosers.specs.Plans.{Chooses}
use Rattle.cet_choosers.proofs.choosers.next_event.Given as goal

-- what is chosen from those that are left is chosen from all
abbrev pub invariant-loop-chooser : goal.invariant-loop-chooser
invariant-loop-chooser g l =
    (answer : Option Event) (left : List (Option Plan))
    → Chooses (map g.C.Chooser.plan (reverse l.choosers.items)) l.view answer left
    → Chooses (map g.C.Chooser.plan (reverse l.initial.choosers.items)) l.view answer left

abbrev pub decreases-loop-chooser : goal.decreases-loop-chooser
decreases-loop-chooser g l = length l.choosers.items
