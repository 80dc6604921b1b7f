use Rattle.std.proofs.Common.{◌+◌, refl, sym, ap, ◌∙◌}
use Rattle.cet_machine.specs.Memory.{is_free, place}
use Rattle.cet_mem.proofs.Placing.{place_some, place_no_pages, place_not_free, put_in, is_placed}
use Rattle.cet_mem.proofs.memory.Memory.place.Goals.{then-not-is_range_of_pages-via-then-not-is_range_of_pages, then-not-is_range_of_pages-via-else-not-is_range_of_pages+then-not-is_free}
use Rattle.cet_mem.proofs.memory.Memory.place.Goals as goal

pub returns-then-not-is_range_of_pages-clause-illegal : goal.returns-then-not-is_range_of_pages-clause-illegal
returns-then-not-is_range_of_pages-clause-illegal c =
    let M = c.args.self.now in
    let at = c.args.at in
    let len = c.args.len in
    elim c.then-not-is_range_of_pages.branch [
      | then-not-is_range_of_pages-via-then-not-is_range_of_pages w ↦
          ((λ _. place_no_pages M at len c.args.kind (sym c.is_range_of_pages.ensures ∙ w.if-not-is_range_of_pages.true)), (λ _. refl))
      | then-not-is_range_of_pages-via-else-not-is_range_of_pages+then-not-is_free w ↦ (
        (λ _. place_not_free M at len c.args.kind
            (sym (ap (λ blocks. is_free blocks at (at + len)) (w.as_slice.ensures.value ∙ c.self.view_is)) ∙ sym w.is_free.ensures ∙ w.if-not-is_free.true)),
        (λ _. refl),
      )
    ]

pub returns-in_default-clause-illegal : goal.returns-in_default-clause-illegal
returns-in_default-clause-illegal c =
    let M = c.args.self.now in
    let at = c.args.at in
    let len = c.args.len in
    let pages = sym c.is_range_of_pages.ensures ∙ c.if-not-is_range_of_pages.false in
    let free = sym (ap (λ blocks. is_free blocks at (at + len)) (c.as_slice.ensures.value ∙ c.self.view_is)) ∙ sym c.is_free.ensures ∙ c.if-not-is_free.false in
    ((λ same. absurd (cc)), (λ none. let placed = sym (place_some M at len c.args.kind pages free) ∙ none in absurd (cc)))

pub returns-in_default-insert-clause-illegal : goal.returns-in_default-insert-clause-illegal
returns-in_default-insert-clause-illegal c =
    let M = c.args.self.now in
    let at = c.args.at in
    let len = c.args.len in
    let pages = sym c.is_range_of_pages.ensures ∙ c.if-not-is_range_of_pages.false in
    let free = sym (ap (λ blocks. is_free blocks at (at + len)) (c.as_slice.ensures.value ∙ c.self.view_is)) ∙ sym c.is_free.ensures ∙ c.if-not-is_free.false in
    ((λ same. absurd (cc)), (λ none. let placed = sym (place_some M at len c.args.kind pages free) ∙ none in absurd (cc)))

pub invariant_of-self-2 : goal.invariant_of-self-2
invariant_of-self-2 c =
    (is_placed c.as_slice.result.now c.as_slice-2.result.now c.self.inside.blocks.items c.insert.new.self.items c.args.at c.args.len c.args.kind c.count_up_to-i.result
    c.as_slice.ensures.value c.as_slice-2.ensures.value c.self.invariant (sym c.is_range_of_pages.ensures ∙ c.if-not-is_range_of_pages.false)
    (sym c.is_free.ensures ∙ c.if-not-is_free.false) c.count_up_to-i.ensures.bound c.count_up_to-i.ensures.split
    (put_in c.insert.new.self.items c.self.inside.blocks.items c.count_up_to-i.result c.new.result c.args.at c.args.len c.args.kind c.in-Ok.bytes.items
    c.in-Ok-insert.ensures.items c.new.ensures c.in-Ok.ensures)).in_order

pub returns-clause-ok : goal.returns-clause-ok
returns-clause-ok c =
    ap (λ blocks. place blocks c.args.at c.args.len c.args.kind) (sym c.self.view_is)
    ∙ (is_placed c.as_slice.result.now c.as_slice-2.result.now c.self.inside.blocks.items c.insert.new.self.items c.args.at c.args.len c.args.kind c.count_up_to-i.result
    c.as_slice.ensures.value c.as_slice-2.ensures.value c.self.invariant (sym c.is_range_of_pages.ensures ∙ c.if-not-is_range_of_pages.false)
    (sym c.is_free.ensures ∙ c.if-not-is_free.false) c.count_up_to-i.ensures.bound c.count_up_to-i.ensures.split
    (put_in c.insert.new.self.items c.self.inside.blocks.items c.count_up_to-i.result c.new.result c.args.at c.args.len c.args.kind c.in-Ok.bytes.items
    c.in-Ok-insert.ensures.items c.new.ensures c.in-Ok.ensures)).placed

pub returns-clause-illegal : goal.returns-clause-illegal
returns-clause-illegal c =
    let M = c.args.self.now in
    let at = c.args.at in
    let len = c.args.len in
    let pages = sym c.is_range_of_pages.ensures ∙ c.if-not-is_range_of_pages.false in
    let free = sym (ap (λ blocks. is_free blocks at (at + len)) (c.as_slice.ensures.value ∙ c.self.view_is)) ∙ sym c.is_free.ensures ∙ c.if-not-is_free.false in
    ((λ same. absurd (cc)), (λ none. let placed = sym (place_some M at len c.args.kind pages free) ∙ none in absurd (cc)))
