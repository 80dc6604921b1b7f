use Rattle.std.proofs.Common.{rules, ◌≡◌, ◌≢◌, true, false, [], sym, ◌∙◌, arith}
use Rattle.std.proofs.lemmas.List.{get_or-set_other, length-set, append-nil}
use Rattle.cet_elf.specs.Below.{each_below}
use Rattle.cet_elf.specs.ObjectSections.{is_kept}
use Rattle.cet_elf.specs.ObjectRelocations.{relocations_of}
use Rattle.cet_elf.specs.ObjectFile.{kept_section}
use Rattle.cet_elf.proofs.BelowLemmas.{each-more}
use Rattle.cet_elf.proofs.reading.read_sections.Goals as goal
use Rattle.cet_elf.proofs.reading.read_sections.Goals.{then-is_kept+in_ok-section_of+in_ok-push, else-is_kept}

pub loop-i-init : goal.loop-i-init
unfolding relocations_of
loop-i-init c = search rules

pub loop-i-preserved : goal.loop-i-preserved
loop-i-preserved c = (
  elim c.if-is_kept.branch [
    | then-is_kept+in_ok-section_of+in_ok-push w ↦
        let kept : is_kept c.args.bytes.now c.loop-i.i ≡ true = sym c.is_kept.ensures ∙ w.if-is_kept.true in
        rw (each-more c.loop-i.i (kept_section c.args.bytes.now), kept) (cc (w.sections-is, w.in_ok-push.ensures.ok, w.in_ok-section_of.ensures, c.loop-i.invariant.0))
    | else-is_kept w ↦
        let left : is_kept c.args.bytes.now c.loop-i.i ≡ false = sym c.is_kept.ensures ∙ w.if-is_kept.false in
        rw (each-more c.loop-i.i (kept_section c.args.bytes.now), left, append-nil (each_below c.loop-i.i (kept_section c.args.bytes.now))) (cc (w.sections-is, c.loop-i.invariant.0))
  ],
  length-set c.loop-i.lists.items c.loop-i.i c.replace-relocations.new.dest ∙ c.loop-i.invariant.1,
  λ k le lt.
      let other : k ≢ c.loop-i.i = omega arith in
      get_or-set_other c.loop-i.lists.items c.loop-i.i k c.replace-relocations.new.dest [] other ∙ c.loop-i.invariant.2 k (omega arith) lt,
)
