-- What a table of names says after one symbol more.
use Rattle.std.proofs.Common.{◌≡◌, ℕ, Bool, true, false, cond, ◌||◌, ◌&&◌, not, List, [], ◌∷◌, ◌++◌, map, filter, Option, Some, None, option_and_then, refl, sym, ap, ◌∙◌}
use Rattle.std.proofs.lemmas.List.{map-append, append-nil}
use Rattle.std.specs.Option.{option_map, option_or}
use Rattle.std.specs.List.{find}
use Rattle.std.specs.Map.{update, keys_of}
use Rattle.std.specs.Str.{bytes_eq}
use Rattle.std.specs.Borrow.{Bor}
use Rattle.std.proofs.lemmas.Slice.Eq.{bytes_eq-Decides}
use Rattle.std.proofs.lemmas.Bool.Decides.{same_from_decides}
use Rattle.indexmap.specs.IndexMap.{insert_entry}
use Rattle.cet_elf.specs.declared.object.Bind.{Bind}
use Rattle.cet_elf.specs.declared.object.Bind.TheVariants as binds
use Rattle.cet_link.specs.declared.names.Seen.{Seen}
use Rattle.cet_link.specs.declared.names.Names.{Names}
use Rattle.cet_link.specs.Inputs.{Met}
use Rattle.cet_link.specs.Names.{is_local, is_global, is_weak, is_defined, is_global_definition, is_weak_definition, defines_global, defines_weak, definition_of, shared_names, is_among, each_once, names_met}
use Rattle.cet_link.specs.Known.{met_of, known_at, definition_in, AreNames, counting, counting_by, if_global, Meets}

pub bytes_eq-comm : (xs ys : List ℕ) → bytes_eq xs ys ≡ bytes_eq ys xs
bytes_eq-comm xs ys =
    let there = bytes_eq-Decides xs ys in
    let back = bytes_eq-Decides ys xs in
    same_from_decides (bytes_eq xs ys) (bytes_eq ys xs) there (λ t. sym (back.0 t), λ e. back.1 (sym e))

pub same_text : (a b : List ℕ) → bytes_eq a b ≡ true → a ≡ b
same_text a b h = (bytes_eq-Decides a b).0 h

-- ---- one item more

pub find-push : {X : Type 0} (p : X → Bool) (xs : List X) (x : X) → find p (xs ++ x ∷ []) ≡ option_or (find p xs) (cond (p x) (Some x) None)
find-push p [] x = refl
find-push p (y ∷ ys) x = elim (p y) as (λ b. cond b (Some y) (find p (ys ++ x ∷ [])) ≡ option_or (cond b (Some y) (find p ys)) (cond (p x) (Some x) None)) [
  | true ↦ refl
  | false ↦ find-push p ys x
]

-- what is found passes the test
found_first : {X : Type 0} (p : X → Bool) (y : X) (ys : List X) (d : X) → (find p ys ≡ Some d → p d ≡ true) → (b : Bool) → p y ≡ b → cond b (Some y) (find p ys) ≡ Some d → p d ≡ true
found_first p y ys d later true e h = let same : y ≡ d = cc in ap p (sym same) ∙ e
found_first p y ys d later false e h = later h

pub find-passes : {X : Type 0} (p : X → Bool) (xs : List X) (d : X) → find p xs ≡ Some d → p d ≡ true
find-passes p [] d h = absurd cc
find-passes p (y ∷ ys) d h = found_first p y ys d (λ e. find-passes p ys d e) (p y) refl h

filter-push : {X : Type 0} (p : X → Bool) (xs : List X) (x : X) → filter p (xs ++ x ∷ []) ≡ filter p xs ++ cond (p x) (x ∷ []) []
filter-push p [] x = refl
filter-push p (y ∷ ys) x = elim (p y) as (λ b. cond b (y ∷ filter p (ys ++ x ∷ [])) (filter p (ys ++ x ∷ [])) ≡ cond b (y ∷ filter p ys) (filter p ys) ++ cond (p x) (x ∷ []) []) [
  | true ↦ ap (λ zs. y ∷ zs) (filter-push p ys x)
  | false ↦ filter-push p ys x
]

each_once-append : (seen xs ys : List (List ℕ)) → each_once seen (xs ++ ys) ≡ each_once (each_once seen xs) ys
each_once-append seen [] ys = refl
each_once-append seen (x ∷ xs) ys = each_once-append (cond (is_among x seen) seen (seen ++ x ∷ [])) xs ys

-- ---- the definition that counts

-- one more symbol, by its binding, whether it has a value, and whether it has the name: behind the first global definition and the first weak one
push_by : (bind : Bind) (defined same : Bool) (g w : Option Met) (m : Met) → ((d : Met) → g ≡ Some d → is_global d.symbol.bind ≡ true) → ((d : Met) → w ≡ Some d → is_global d.symbol.bind ≡ false)
    → option_or (option_or g (cond (is_global bind && defined && same) (Some m) None)) (option_or w (cond (is_weak bind && defined && same) (Some m) None))
    ≡ cond (not (is_local bind) && same) (cond defined (counting_by bind (option_or g w) m) (option_or g w)) (option_or g w)
push_by binds.Local defined same (Some d) w m hg hw = refl
push_by binds.Local defined same None None m hg hw = refl
push_by binds.Local defined same None (Some e) m hg hw = refl
push_by binds.Global true true (Some d) w m hg hw = rw (hg d refl) refl
push_by binds.Global true true None None m hg hw = refl
push_by binds.Global true true None (Some e) m hg hw = rw (hw e refl) refl
push_by binds.Global true false (Some d) w m hg hw = refl
push_by binds.Global true false None None m hg hw = refl
push_by binds.Global true false None (Some e) m hg hw = refl
push_by binds.Global false true (Some d) w m hg hw = refl
push_by binds.Global false true None None m hg hw = refl
push_by binds.Global false true None (Some e) m hg hw = refl
push_by binds.Global false false (Some d) w m hg hw = refl
push_by binds.Global false false None None m hg hw = refl
push_by binds.Global false false None (Some e) m hg hw = refl
push_by binds.Weak true true (Some d) w m hg hw = refl
push_by binds.Weak true true None None m hg hw = refl
push_by binds.Weak true true None (Some e) m hg hw = refl
push_by binds.Weak true false (Some d) w m hg hw = refl
push_by binds.Weak true false None None m hg hw = refl
push_by binds.Weak true false None (Some e) m hg hw = refl
push_by binds.Weak false true (Some d) w m hg hw = refl
push_by binds.Weak false true None None m hg hw = refl
push_by binds.Weak false true None (Some e) m hg hw = refl
push_by binds.Weak false false (Some d) w m hg hw = refl
push_by binds.Weak false false None None m hg hw = refl
push_by binds.Weak false false None (Some e) m hg hw = refl

and-first : (a b : Bool) → a && b ≡ true → a ≡ true
and-first true b h = refl
and-first false b h = absurd cc

global_is : (b : Bind) → is_weak b ≡ true → is_global b ≡ false
global_is binds.Local h = refl
global_is binds.Global h = absurd cc
global_is binds.Weak h = refl

pub global-found : (met : List Met) (name : List ℕ) (d : Met) → find (defines_global name) met ≡ Some d → is_global d.symbol.bind ≡ true
global-found met name d h = and-first (is_global d.symbol.bind) (is_defined d.symbol.place) (and-first (is_global_definition d.symbol) (bytes_eq d.symbol.name name) (find-passes (defines_global name) met d h))

pub weak-found : (met : List Met) (name : List ℕ) (d : Met) → find (defines_weak name) met ≡ Some d → is_global d.symbol.bind ≡ false
weak-found met name d h = global_is d.symbol.bind (and-first (is_weak d.symbol.bind) (is_defined d.symbol.place) (and-first (is_weak_definition d.symbol) (bytes_eq d.symbol.name name) (find-passes (defines_weak name) met d h)))

pub definition_of-push : (met : List Met) (m : Met) (name : List ℕ)
    → definition_of (met ++ m ∷ []) name ≡ cond (not (is_local m.symbol.bind) && bytes_eq m.symbol.name name) (counting (definition_of met name) m) (definition_of met name)
unfolding definition_of
definition_of-push met m name =
    rw (find-push (defines_global name) met m, find-push (defines_weak name) met m)
    (push_by m.symbol.bind (is_defined m.symbol.place) (bytes_eq m.symbol.name name) _ _ m (global-found met name) (weak-found met name))

-- ---- the names met

abbrev texts : List (Bor (List ℕ) × Option Seen) → List (List ℕ)
texts es = map (λ k. k.now) (keys_of es)

abbrev inserted : List (Bor (List ℕ) × Option Seen) → Bor (List ℕ) → Option Seen → List (Bor (List ℕ) × Option Seen)
inserted es key known = insert_entry (λ x y. bytes_eq x.now y.now) es key known

-- a name that is there keeps its place, and a new one goes last
insert_first : (e : Bor (List ℕ) × Option Seen) (es : List (Bor (List ℕ) × Option Seen)) (key : Bor (List ℕ)) (known : Option Seen) (b : Bool)
    → texts (inserted es key known) ≡ cond (is_among key.now (texts es)) (texts es) (texts es ++ key.now ∷ [])
    → texts (cond b ((e.0, known) ∷ es) (e ∷ inserted es key known)) ≡ cond (b || is_among key.now (texts es)) (texts (e ∷ es)) (texts (e ∷ es) ++ key.now ∷ [])
insert_first e es key known true h = refl
insert_first e es key known false h = ap (λ zs. e.0.now ∷ zs) h ∙ moved (is_among key.now (texts es)) where
  moved : (b : Bool) → e.0.now ∷ cond b (texts es) (texts es ++ key.now ∷ []) ≡ cond b (texts (e ∷ es)) (texts (e ∷ es) ++ key.now ∷ [])
  moved true = refl
  moved false = refl

names-insert : (es : List (Bor (List ℕ) × Option Seen)) (key : Bor (List ℕ)) (known : Option Seen)
    → texts (inserted es key known) ≡ cond (is_among key.now (texts es)) (texts es) (texts es ++ key.now ∷ [])
names-insert [] key known = refl
names-insert (e ∷ es) key known = insert_first e es key known (bytes_eq key.now e.0.now) (names-insert es key known)

shared_names-push : (met : List Met) (m : Met) → is_local m.symbol.bind ≡ false → shared_names (met ++ m ∷ []) ≡ shared_names met ++ m.symbol.name ∷ []
shared_names-push met m h =
    ap (map (λ d. d.symbol.name)) (filter-push (λ d. not (is_local d.symbol.bind)) met m)
    ∙ map-append (λ d. d.symbol.name) (filter (λ d. not (is_local d.symbol.bind)) met) (cond (not (is_local m.symbol.bind)) (m ∷ []) [])
    ∙ rw h refl

shared_names-local : (met : List Met) (m : Met) → is_local m.symbol.bind ≡ true → shared_names (met ++ m ∷ []) ≡ shared_names met
shared_names-local met m h =
    ap (map (λ d. d.symbol.name)) (filter-push (λ d. not (is_local d.symbol.bind)) met m)
    ∙ map-append (λ d. d.symbol.name) (filter (λ d. not (is_local d.symbol.bind)) met) (cond (not (is_local m.symbol.bind)) (m ∷ []) [])
    ∙ rw h (append-nil (shared_names met))

names_met-push : (met : List Met) (m : Met) → is_local m.symbol.bind ≡ false
    → names_met (met ++ m ∷ []) ≡ cond (is_among m.symbol.name (names_met met)) (names_met met) (names_met met ++ m.symbol.name ∷ [])
names_met-push met m h = ap (each_once []) (shared_names-push met m h) ∙ each_once-append [] (shared_names met) (m.symbol.name ∷ [])

-- ---- the table

pub AreNames-none : (names : Names) → names.known.entries ≡ [] → AreNames [] names
unfolding definition_of
AreNames-none names h = record { definitions = λ name. rw h refl; listed = rw h refl }

-- a local symbol has no part in it
pub Meets-local : (names : Names) (m : Met) → is_local m.symbol.bind ≡ true → Meets names names (m ∷ [])
Meets-local names m h = λ before old. record {
  definitions = λ name. old.definitions name ∙ sym (definition_of-push before m name ∙ rw h refl);
  listed = old.listed ∙ sym (ap (each_once []) (shared_names-local before m h));
}

-- one symbol more, which is put at its name
pub Meets-put : (old new : Names) (key : Bor (List ℕ)) (known : Option Seen) (m : Met) → is_local m.symbol.bind ≡ false → key.now ≡ m.symbol.name
    → ((q : List ℕ) → known_at new q ≡ update bytes_eq (known_at old) key.now (Some known) q)
    → new.known.entries ≡ inserted old.known.entries key known
    → option_map met_of known ≡ counting (definition_in old key.now) m
    → Meets old new (m ∷ [])
Meets-put old new key known m h text puts entries counted = λ before was. record {
  definitions = λ q. ap (λ o. option_map met_of (option_and_then (λ k. k) o)) (puts q)
      ∙ given before was q (bytes_eq key.now q) refl ∙ sym (definition_of-push before m q ∙ rw (h, ← text) refl);
  listed = ap texts entries ∙ names-insert old.known.entries key known ∙ ap (λ names. cond (is_among key.now names) names (names ++ key.now ∷ [])) was.listed
      ∙ sym (names_met-push before m h ∙ rw (← text) refl);
} where
  given : (before : List Met) → AreNames before old → (q : List ℕ) (b : Bool) → bytes_eq key.now q ≡ b
      → option_map met_of (option_and_then (λ (k : Option Seen). k) (cond b (Some known) (known_at old q))) ≡ cond b (counting (definition_of before q) m) (definition_of before q)
  given before was q true e = counted ∙ ap (λ d. counting d m) (was.definitions key.now ∙ ap (definition_of before) (same_text key.now q e))
  given before was q false e = was.definitions q

-- ---- the first global definition

first_of : (g w : Option Met) → ((d : Met) → g ≡ Some d → is_global d.symbol.bind ≡ true) → ((d : Met) → w ≡ Some d → is_global d.symbol.bind ≡ false) → if_global (option_or g w) ≡ g
first_of (Some d) w hg hw = rw (hg d refl) refl
first_of None None hg hw = refl
first_of None (Some d) hg hw = rw (hw d refl) refl

-- the definition that counts, where it is global, is the first global one
pub if_global-first : (before : List Met) (names : Names) (name : List ℕ) → AreNames before names → if_global (definition_in names name) ≡ find (defines_global name) before
unfolding definition_of
if_global-first before names name are = ap if_global (are.definitions name) ∙ first_of _ _ (global-found before name) (weak-found before name)
