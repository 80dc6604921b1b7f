-- The next item in its place, or what is wrong with it.
use Rattle.std.proofs.Common.{◌≡◌, ℕ, true, false, ◌⊎◌, inl, inr, List, [], ◌∷◌, ◌++◌, length, map, refl, sym, ◌∙◌, ap, Option, Err}
use Rattle.cet_syntax.specs.declared.lines.Numbered.{Numbered}
use Rattle.cet_asm.specs.declared.error.AsmKind.{AsmKind}
use Rattle.cet_asm.specs.declared.error.AsmKind.TheVariants as fault
use Rattle.cet_asm.specs.declared.placed.Placed.{Placed}
use Rattle.cet_asm.specs.declared.placed.Step.{Step}
use Rattle.cet_asm.specs.declared.names.Target.{Target}
use Rattle.cet_asm.specs.declared.assembly.Assembly.{Assembly}
use Rattle.cet_asm.specs.declared.assembly.Reading.{Reading}
use Rattle.cet_asm.specs.Assembled.{after, placed_of, defines_anew, keeps_limits, step_of, spot_in}
use Rattle.cet_asm.specs.Placing.{mark_of, short_names, state_of, placed_here, targets_of, IsKept, IsReading, IsPlacedNext, Describes, Admits, Refuses}
use Rattle.cet_asm.proofs.CountLemmas.{used_names-of_uses, length-uses_of, placed_of-good, placed_of-twice, placed_of-many, placed_of-bad}

abbrev here : Assembly → ℕ → Step → Placed
here a line step = placed_here (state_of a.cursor) line step

abbrev pub mark_here : Assembly → Step → Option (List ℕ × Target)
mark_here a step = mark_of (state_of a.cursor).section (spot_in (state_of a.cursor)).offset step

described : (a : Assembly) (item : Numbered) (r : Reading) → IsReading a item.item r → Describes (here a item.line r.step) r.step (mark_here a r.step) r.uses.items
described a item r reading = record {
  step = refl;
  mark = refl;
  used = used_names-of_uses (targets_of a) (here a item.line r.step) ∙ ap (λ us. short_names r.step ++ map (λ u. u.name) us) (sym (reading.uses item.line));
  count = length-uses_of (targets_of a) (here a item.line r.step) ∙ ap length (sym (reading.uses item.line));
}

pub IsPlacedNext-admitted : (old new : Assembly) (item : Numbered) (r : Reading) → IsKept old → IsReading old item.item r → Admits old.counts new.counts r.step (mark_here old r.step) r.uses.items → new.placed.items ≡ old.placed.items ++ placed_here (state_of old.cursor) item.line r.step ∷ [] → state_of new.cursor ≡ after (state_of old.cursor) r.step → IsPlacedNext old new item
IsPlacedNext-admitted old new item r kept reading admits items state =
    let good = admits old.placed.items (here old item.line r.step) kept (described old item r reading) in
    record {
      placed = here old item.line r.step;
      good = placed_of-good old.placed.items (state_of old.cursor) item r.step reading.step good.0 good.1;
      items = items;
      state = state;
    }

pub IsKept-admitted : (old new : Assembly) (item : Numbered) (r : Reading) → IsKept old → IsReading old item.item r → Admits old.counts new.counts r.step (mark_here old r.step) r.uses.items → new.placed.items ≡ old.placed.items ++ placed_here (state_of old.cursor) item.line r.step ∷ [] → IsKept new
IsKept-admitted old new item r kept reading admits items =
    let good = admits old.placed.items (here old item.line r.step) kept (described old item r reading) in
    rw items good.2

pub placed_of-refused : (old : Assembly) (item : Numbered) (r : Reading) (kind : AsmKind) → IsKept old → IsReading old item.item r → Refuses old.counts kind r.step (mark_here old r.step) r.uses.items → placed_of old.placed.items (state_of old.cursor) item ≡ Err kind
placed_of-refused old item r kind kept reading refuses = by_fault (refuses old.placed.items (here old item.line r.step) kept (described old item r reading)) where
  by_fault : ((kind ≡ fault.Twice) × (defines_anew old.placed.items (here old item.line r.step) ≡ false)) ⊎ ((kind ≡ fault.TooMany) × (defines_anew old.placed.items (here old item.line r.step) ≡ true) × (keeps_limits (old.placed.items ++ here old item.line r.step ∷ []) ≡ false)) → placed_of old.placed.items (state_of old.cursor) item ≡ Err kind
  by_fault (inl f) = placed_of-twice old.placed.items (state_of old.cursor) item r.step reading.step f.1 ∙ ap Err (sym f.0)
  by_fault (inr f) = placed_of-many old.placed.items (state_of old.cursor) item r.step reading.step f.1 f.2 ∙ ap Err (sym f.0)

pub placed_of-misread : (old : Assembly) (item : Numbered) (kind : AsmKind) → step_of old.placed.items (state_of old.cursor) item.item ≡ Err kind → placed_of old.placed.items (state_of old.cursor) item ≡ Err kind
placed_of-misread old item kind e = placed_of-bad old.placed.items (state_of old.cursor) item kind e
