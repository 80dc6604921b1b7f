use Rattle.std.proofs.Common.{◌≡◌, ◌++◌, codes}
use Rattle.std.specs.List.{flat_map}
use Rattle.cet_verbs.specs.Notes.{property_text}
use Rattle.cet_verbs.proofs.notes_text.put_properties.Given as goal

-- with the properties that are left, the text is whole
abbrev pub invariant-loop-kind : goal.invariant-loop-kind
invariant-loop-kind l =
    l.text.items ++ flat_map (λ property. codes " " ++ property_text property) l.kind-iterator ≡ l.initial.text.items ++ flat_map (λ property. codes " " ++ property_text property) l.note
