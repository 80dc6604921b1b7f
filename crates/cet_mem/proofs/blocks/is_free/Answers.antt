use Rattle.std.proofs.Common.{◌≡◌, ℕ, ◌+◌, ◌-◌, ◌≤◌, ◌<◌, List, suc, length, get_or, sym, ◌∙◌, subst, arith, inl, inr}
use Rattle.std.proofs.lemmas.Bool.{cases_lt, le-leb, lt-leb}
use Rattle.cet_machine.specs.declared.memory.Region.{Region}
use Rattle.cet_mem.proofs.Orders.{item, item_before}
use Rattle.cet_mem.proofs.Placing.{free_from, taken_after}
use Rattle.cet_mem.proofs.blocks.is_free.Goals.{then-after-gt0+else-low-start, else-after-gt0}
use Rattle.cet_mem.proofs.blocks.is_free.Goals as goal

-- what was read of a block says the same of the block at its place
ends_at_item : (M : List Region) (low start len k : ℕ) (r d : Region) → get_or M k d ≡ r → start ≡ r.start → len ≡ length r.bytes → len ≤ low - start
    → (get_or M k d).start ≤ low → (get_or M k d).start + length (get_or M k d).bytes ≤ low
ends_at_item M low start len k r d is of_start of_len ends starts =
    let starts_r : r.start ≤ low = subst (λ (q : Region). q.start ≤ low) is starts in
    subst (λ (q : Region). q.start + length q.bytes ≤ low) (sym is) (omega arith)

pub returns-then-after-blocks : goal.returns-then-after-blocks
returns-then-after-blocks c =
    let i : ℕ = c.count_up_to-after.result in
    let found = c.count_up_to-after.ensures in
    let r : Region = c.index-blocks-after-then-after-blocks.result in
    let there : (d : Region) → get_or c.args.blocks.now i d ≡ r = λ d. item c.args.blocks.now i r d c.if-after-blocks.true c.index-blocks-after-then-after-blocks.is in
    let before : (k : ℕ) (d : Region) → suc k ≡ i → (get_or c.args.blocks.now k d).start + length (get_or c.args.blocks.now k d).bytes ≤ c.args.low =
    elim c.if-after-gt0.branch [
      | then-after-gt0+else-low-start w ↦ λ k d last.
          ends_at_item c.args.blocks.now c.args.low w.start.result w.len.result k w.index-blocks-after.result d
          (item_before c.args.blocks.now i k w.index-blocks-after.result d found.bound last w.index-blocks-after.is)
          w.start.ensures w.len.ensures w.if-low-start.false (found.split.0 k d (omega arith) (omega arith))
      | else-after-gt0 w ↦ λ k d last. absurd (omega (arith, w.if-after-gt0.false))
    ] in
    elim (cases_lt c.start-then-after-blocks.result c.args.high) [
      | inl below ↦
          lt-leb c.args.high c.start-then-after-blocks.result below
          ∙ sym (taken_after c.args.blocks.now c.args.low c.args.high i r c.requires.in_order c.if-after-blocks.true (found.split.1 i r (omega arith) c.if-after-blocks.true)
          (subst (λ (q : Region). q.start < c.args.high) (sym (there r)) (omega (arith, c.start-then-after-blocks.ensures))))
      | inr above ↦ le-leb c.args.high c.start-then-after-blocks.result above
          ∙ sym (free_from c.args.blocks.now c.args.low c.args.high i c.requires.in_order found.bound found.split before
          (λ d within. subst (λ (q : Region). c.args.high ≤ q.start) (sym (there d)) (omega (arith, c.start-then-after-blocks.ensures))))
    ]

pub returns : goal.returns
returns c =
    let i : ℕ = c.count_up_to-after.result in
    let found = c.count_up_to-after.ensures in
    let before : (k : ℕ) (d : Region) → suc k ≡ i → (get_or c.args.blocks.now k d).start + length (get_or c.args.blocks.now k d).bytes ≤ c.args.low =
    elim c.if-after-gt0.branch [
      | then-after-gt0+else-low-start w ↦ λ k d last.
          ends_at_item c.args.blocks.now c.args.low w.start.result w.len.result k w.index-blocks-after.result d
          (item_before c.args.blocks.now i k w.index-blocks-after.result d found.bound last w.index-blocks-after.is)
          w.start.ensures w.len.ensures w.if-low-start.false (found.split.0 k d (omega arith) (omega arith))
      | else-after-gt0 w ↦ λ k d last. absurd (omega (arith, w.if-after-gt0.false))
    ] in
    sym (free_from c.args.blocks.now c.args.low c.args.high i c.requires.in_order found.bound found.split before (λ d within. absurd (omega (arith, c.if-after-blocks.false))))
