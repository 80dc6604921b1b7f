-- Uses one after another, and the uses of the parts of a site.
use Rattle.std.proofs.Common.{◌≡◌, ℕ, suc, ◌+◌, ◌<◌, Bool, false, ◌&&◌, List, [], ◌∷◌, ◌++◌, length, map, drop, get_or, refl, sym, ◌∙◌, ap, append_assoc, add_assoc, zero-add, drop-cons, add-one, Result, Ok, Err}
use Rattle.std.proofs.Math.Seq.{drop-length}
use Rattle.std.proofs.lemmas.List.{map-append, append-nil}
use Rattle.std.proofs.lemmas.List.Folds.{list_all-append}
use Rattle.cet_asm.specs.declared.error.AsmKind.{AsmKind}
use Rattle.cet_asm.specs.declared.part.Part.{Part}
use Rattle.cet_asm.specs.declared.placed.Spot.{Spot}
use Rattle.cet_asm.specs.declared.usage.Use.{Use}
use Rattle.cet_syntax.specs.declared.statement.Quad.TheVariants as quad
use Rattle.cet_syntax.specs.declared.template.Code.TheVariants as code
use Rattle.cet_syntax.specs.declared.statement.Directive.TheVariants as directive
use Rattle.cet_syntax.specs.declared.statement.Statement.{Statement}
use Rattle.cet_syntax.specs.declared.statement.Statement.TheVariants as statement
use Rattle.cet_asm.specs.Emitted.{Targets, emitted, offset_use, moved, part_size, part_emitted, parts_emitted}
use Rattle.cet_asm.specs.Assembled.{addends_fit}
use Rattle.cet_asm.specs.Placing.{AddsUses, IsTable, statement_uses}

false_left : (b : Bool) → (false && b) ≡ false
false_left b = refl

pub fit-append : (xs ys : List Use) → addends_fit (xs ++ ys) ≡ (addends_fit xs && addends_fit ys)
fit-append xs ys = list_all-append _ xs ys

pub fit-moved : (by : ℕ) (us : List Use) → addends_fit (map (moved by) us) ≡ addends_fit us
fit-moved by [] = refl
fit-moved by (u ∷ us) = rw (fit-moved by us) refl

pub map-moved-none : (us : List Use) → map (moved 0) us ≡ us
map-moved-none [] = refl
map-moved-none (u ∷ us) = rw (map-moved-none us, zero-add u.offset) refl

pub map-moved-moved : (a b : ℕ) (us : List Use) → map (moved a) (map (moved b) us) ≡ map (moved (a + b)) us
map-moved-moved a b [] = refl
map-moved-moved a b (u ∷ us) = rw (map-moved-moved a b us, add_assoc a b u.offset) refl

-- some uses, and then others
pub AddsUses-more : (old mid new : List Use) (r : Result (Unit {0}) AsmKind) (xs ys : List Use) → AddsUses old mid (Ok tt) xs → AddsUses mid new r ys → AddsUses old new r (xs ++ ys)
AddsUses-more old mid new (Ok u) xs ys f g = (rw (fit-append xs ys, f.0) g.0, g.1 ∙ ap (λ zs. zs ++ ys) f.1 ∙ append_assoc old xs ys)
AddsUses-more old mid new (Err kind) xs ys f g = λ n. ((g n).0, rw (fit-append xs ys, f.0) (g n).1)

-- the first that do not fit decide
pub AddsUses-stops : (old new : List Use) (kind : AsmKind) (xs ys : List Use) → AddsUses old new (Err kind) xs → AddsUses old new (Err kind) (xs ++ ys)
AddsUses-stops old new kind xs ys f = λ n. ((f n).0, rw (fit-append xs ys, (f n).1) refl)

pub AddsUses-none : (old : List Use) → AddsUses old old (Ok tt) []
AddsUses-none old = (refl, sym (append-nil old))

-- the uses of parts, the first of which has these
pub parts_emitted-one : (parts : List Part) (spot : Spot) (place : ℕ) (part : Part) (rest : List Part) → map (moved place) (parts_emitted parts spot place (part ∷ rest)).uses ≡ map (moved place) (part_emitted parts spot place part).uses ++ map (moved (place + part_size part)) (parts_emitted parts spot (place + part_size part) rest).uses
parts_emitted-one parts spot place part rest =
    map-append (moved place) (part_emitted parts spot place part).uses (map (moved (part_size part)) (parts_emitted parts spot (place + part_size part) rest).uses)
    ∙ ap (λ us. map (moved place) (part_emitted parts spot place part).uses ++ us) (map-moved-moved place (part_size part) (parts_emitted parts spot (place + part_size part) rest).uses)

-- how far a loop over the parts has come: it added the uses of the parts before
pub record IsAlong (parts : List Part) (spot : Spot) (old new : List Use) (place i : ℕ) : Type 0 where
  pub added : List Use
  pub adds : AddsUses old new (Ok tt) added
  pub all : (parts_emitted parts spot 0 parts).uses ≡ added ++ map (moved place) (parts_emitted parts spot place (drop i parts)).uses

pub IsAlong-start : (parts : List Part) (spot : Spot) (old : List Use) → IsAlong parts spot old old 0 0
IsAlong-start parts spot old = record {
  added = [];
  adds = AddsUses-none old;
  all = sym (map-moved-none (parts_emitted parts spot 0 parts).uses);
}

next : (parts : List Part) (spot : Spot) (place i : ℕ) (part : Part) → i < length parts → part ≡ get_or parts i part → map (moved place) (parts_emitted parts spot place (drop i parts)).uses ≡ map (moved place) (part_emitted parts spot place part).uses ++ map (moved (place + part_size part)) (parts_emitted parts spot (place + part_size part) (drop (i + 1) parts)).uses
next parts spot place i part h is =
    ap (λ ps. map (moved place) (parts_emitted parts spot place ps).uses) (drop-cons parts i part h ∙ ap (λ p. p ∷ drop (suc i) parts) (sym is) ∙ ap (λ n. part ∷ drop n parts) (sym (add-one i)))
    ∙ parts_emitted-one parts spot place part (drop (i + 1) parts)

pub IsAlong-more : (parts : List Part) (spot : Spot) (old mid new : List Use) (place i : ℕ) (part : Part) → IsAlong parts spot old mid place i → i < length parts → part ≡ get_or parts i part → AddsUses mid new (Ok tt) (map (moved place) (part_emitted parts spot place part).uses) → IsAlong parts spot old new (place + part_size part) (i + 1)
IsAlong-more parts spot old mid new place i part so_far h is more = record {
  added = so_far.added ++ map (moved place) (part_emitted parts spot place part).uses;
  adds = AddsUses-more old mid new (Ok tt) so_far.added _ so_far.adds more;
  all = so_far.all ∙ ap (λ us. so_far.added ++ us) (next parts spot place i part h is) ∙ sym (append_assoc so_far.added _ _);
}

-- a part that does not fit decides for all
pub IsAlong-stops : (parts : List Part) (spot : Spot) (old mid new : List Use) (place i : ℕ) (part : Part) (kind : AsmKind) → IsAlong parts spot old mid place i → i < length parts → part ≡ get_or parts i part → AddsUses mid new (Err kind) (map (moved place) (part_emitted parts spot place part).uses) → AddsUses old new (Err kind) (parts_emitted parts spot 0 parts).uses
IsAlong-stops parts spot old mid new place i part kind so_far h is stop =
    rw (so_far.all, next parts spot place i part h is) (AddsUses-more old mid new (Err kind) so_far.added (map (moved place) (part_emitted parts spot place part).uses ++ map (moved (place + part_size part)) (parts_emitted parts spot (place + part_size part) (drop (i + 1) parts)).uses) so_far.adds (AddsUses-stops mid new kind (map (moved place) (part_emitted parts spot place part).uses) (map (moved (place + part_size part)) (parts_emitted parts spot (place + part_size part) (drop (i + 1) parts)).uses) stop))

pub IsAlong-end : (parts : List Part) (spot : Spot) (old new : List Use) (place : ℕ) → IsAlong parts spot old new place (length parts) → AddsUses old new (Ok tt) (parts_emitted parts spot 0 parts).uses
IsAlong-end parts spot old new place so_far = rw (so_far.all, drop-length parts, append-nil) so_far.adds

-- uses that stand at once behind the start
pub AddsUses-zero : (old new : List Use) (r : Result (Unit {0}) AsmKind) (us : List Use) → AddsUses old new r (map (moved 0) us) → AddsUses old new r us
AddsUses-zero old new r us h = rw map-moved-none at h

emitted_at : (targets : Targets) (spot : Spot) (st : Statement) (table : ℕ) → IsTable targets spot.section st table → (emitted targets spot st).uses ≡ statement_uses table spot st
emitted_at targets spot (statement.Code (code.Long t)) table h = refl
emitted_at targets spot (statement.Code (code.Short c name)) table h = refl
emitted_at targets spot (statement.Directive (directive.Word (quad.Number n))) table h = refl
emitted_at targets spot (statement.Directive (directive.Word (quad.Symbol name))) table h = refl
emitted_at targets spot (statement.Directive (directive.Off name label)) table h = ap (λ t. offset_use spot.offset t name ∷ []) h
emitted_at targets spot (statement.Directive d) table h = refl
emitted_at targets spot (statement.Site s) table h = refl

-- the uses of a statement depend on where names are defined by the table of `.off` alone
pub uses-of_table : (targets : Targets) (spot : Spot) (st : Statement) (table : ℕ) → IsTable targets spot.section st table → (emitted targets spot st).uses ≡ statement_uses table spot st
uses-of_table = emitted_at
