use Rattle.std.proofs.Common.{sym, ◌∙◌}
use Rattle.cet_mem.proofs.Placing.{legal_no_pages, legal_low, legal_is}
use Rattle.cet_mem.proofs.memory.Memory.legal.Goals.{then-not-is_range_of_pages-via-then-not-is_range_of_pages, then-not-is_range_of_pages-via-else-not-is_range_of_pages+then-at-lt-LEGAL_START}
use Rattle.cet_mem.proofs.memory.Memory.legal.Goals as goal

pub returns-then-not-is_range_of_pages : goal.returns-then-not-is_range_of_pages
returns-then-not-is_range_of_pages c = elim c.then-not-is_range_of_pages.branch [
  | then-not-is_range_of_pages-via-then-not-is_range_of_pages w ↦
      sym (legal_no_pages c.args.self.now c.args.at c.args.len (sym c.is_range_of_pages.ensures ∙ w.if-not-is_range_of_pages.true))
  | then-not-is_range_of_pages-via-else-not-is_range_of_pages+then-at-lt-LEGAL_START w ↦
      sym (legal_low c.args.self.now c.args.at c.args.len w.if-at-lt-LEGAL_START.true)
]

pub returns : goal.returns
returns c =
    c.is_free.ensures
    ∙ legal_is c.as_slice.result.now c.args.self.now c.args.at c.args.len (c.as_slice.ensures.value ∙ c.self.view_is)
    (sym c.is_range_of_pages.ensures ∙ c.if-not-is_range_of_pages.false) c.if-at-lt-LEGAL_START.false
