use Rattle.std.proofs.Common.{◌≡◌, true, false, sym, ap, ◌∙◌}
use Rattle.std.proofs.lemmas.List.{append-nil}
use Rattle.cet_elf.specs.Below.{each_below}
use Rattle.cet_elf.specs.ObjectSymbols.{symbol_at}
use Rattle.cet_elf.proofs.BelowLemmas.{each-more}
use Rattle.cet_exec.specs.ExecSymbols.{is_kept, kept_symbol, symbol_of}
use Rattle.cet_exec.proofs.symbols.read_entries.Goals as goal
use Rattle.cet_exec.proofs.symbols.read_entries.Goals.{then-is_kept+in_ok-symbol_of+in_ok-push, else-is_kept}

pub loop-k-preserved : goal.loop-k-preserved
loop-k-preserved c =
    elim c.if-is_kept.branch [
      | then-is_kept+in_ok-symbol_of+in_ok-push w ↦
          let kept : is_kept c.args.bytes.now (symbol_at c.args.bytes.now c.loop-k.k) ≡ true =
          ap (is_kept c.args.bytes.now) (sym c.entry-e.ensures) ∙ sym c.is_kept.ensures ∙ w.if-is_kept.true in
          let made = w.in_ok-symbol_of.ensures ∙ ap (symbol_of c.args.bytes.now) c.entry-e.ensures in
          rw (each-more c.loop-k.k (kept_symbol c.args.bytes.now), kept) (cc (w.symbols-is, w.in_ok-push.ensures.ok, made, c.loop-k.invariant))
      | else-is_kept w ↦
          let left : is_kept c.args.bytes.now (symbol_at c.args.bytes.now c.loop-k.k) ≡ false =
          ap (is_kept c.args.bytes.now) (sym c.entry-e.ensures) ∙ sym c.is_kept.ensures ∙ w.if-is_kept.false in
          rw (each-more c.loop-k.k (kept_symbol c.args.bytes.now), left, append-nil (each_below c.loop-k.k (kept_symbol c.args.bytes.now))) (cc (w.symbols-is, c.loop-k.invariant))
    ]
