-- The marks of a function: what a turn of the cutting adds, and what a look-up tells.
use Rattle.std.proofs.Common.{◌≡◌, ℕ, ◌+◌, ◌-◌, ◌<◌, ◌≤◌, List, [], ◌∷◌, ◌++◌, length, take, get_or, replicate, Some, None, refl, sym, ap, ◌∙◌, subst, inl, inr, arith}
use Rattle.std.proofs.lemmas.List.{length-append, length-replicate, get_or-replicate, get_or_append_left, get_or-append_right, get_or_past, take_all, length_push, get_or_push}
use Rattle.std.proofs.lemmas.Bool.{cases_lt}
use Rattle.cet_rules.specs.declared.function.Function.{Function}
use Rattle.cet_rules.specs.declared.image.Image.{Image}
use Rattle.cet_rules.specs.declared.piece.Piece.{Piece}
use Rattle.cet_rules.specs.Piece.{prologue_end, piece_at, IsCut, IsPiece}
use Rattle.cet_cert.specs.declared.survey.Mark.{Mark}
use Rattle.cet_cert.specs.declared.survey.Mark.TheVariants.{Inside, Start, Landing}
use Rattle.cet_cert.specs.declared.survey.Survey.{Survey}
use Rattle.cet_cert.specs.Survey.{IsMark, IsMarkOf, AreMarks, IsStop, IsSurvey}
use Rattle.cet_cert.proofs.Cuts.{piece_fits, prologue_fits, cut_above, cut_ends, cut_last, gap}

-- past its end a list of marks gives the default, and so does a list of these
marks_inside : (n k : ℕ) → get_or (replicate n Inside) k Inside ≡ Inside
marks_inside n k = elim (cases_lt k n) [
  | inl within ↦ get_or-replicate n k Inside Inside within
  | inr past ↦ get_or_past (replicate n Inside) k Inside (omega (arith, length-replicate n Inside))
]

module _ (image : Image) (f : Function) where
  -- the piece that stands at a cut is one of the function's
  pub piece_from : (a : ℕ) (p : Piece) → IsCut image f a → piece_at image f a ≡ Some p → IsPiece image f p
  piece_from a p cut is =
      let at : a ≡ p.at = sym (piece_fits image f a p is).0 in
      record { cut = subst (λ (x : ℕ). IsCut image f x) at cut; stands = subst (λ (x : ℕ). piece_at image f x ≡ Some p) at is }

  -- one piece starts at an address
  pub same_piece : (a : ℕ) (p q : Piece) → piece_at image f a ≡ Some p → IsPiece image f q → q.at ≡ a → p ≡ q
  same_piece a p q is piece at =
      let stands : piece_at image f a ≡ Some q = subst (λ (x : ℕ). piece_at image f x ≡ Some q) at piece.stands in
      cc

  mark_here : (a : ℕ) (p : Piece) (m : Mark) → IsCut image f a → piece_at image f a ≡ Some p → IsMarkOf p.kind m → IsMark image f a m
  mark_here a p Inside cut is of = absurd of
  mark_here a p Start cut is of = (
    (p, piece_from a p cut is, (piece_fits image f a p is).0),
    λ landing.
        of (ap (λ (r : Piece). r.kind) (same_piece a p landing.0 is landing.1 landing.3) ∙ landing.2),
  )
  mark_here a p Landing cut is of = (p, piece_from a p cut is, of, (piece_fits image f a p is).0)

  mark_inside : (a : ℕ) (p : Piece) → IsCut image f a → piece_at image f a ≡ Some p → (t : ℕ) → a < t → t < p.next → IsMark image f t Inside
  mark_inside a p cut is t above below start =
      elim (gap image f a p (cut_ends image f cut) (cut_above image f cut) is (start.1).cut) [
        | inl before ↦ omega (arith, before, start.2)
        | inr far ↦ omega (arith, far, start.2)
      ]

  mark_before : (t : ℕ) → t < prologue_end image f → IsMark image f t Inside
  mark_before t before start = omega (arith, cut_above image f (start.1).cut, start.2)

  -- no piece starts in the prologue
  pub marks_none : (a : ℕ) (old now : List Mark) (had : ℕ) → a ≡ prologue_end image f → old ≡ [] → had ≡ 0 → now ≡ take (a - f.start) old ++ replicate ((a - f.start) - had) Inside → AreMarks image f a now
  marks_none a old now had a_is empty none e =
      let n : ℕ = (a - f.start) - had in
      let short : length old ≤ a - f.start = omega (arith, ap (λ (xs : List Mark). length xs) empty) in
      let now_is : now ≡ replicate n Inside = e ∙ ap (λ (xs : List Mark). xs ++ replicate n Inside) (take_all (a - f.start) old short ∙ empty) in
      let long : length now ≡ n = ap (λ (xs : List Mark). length xs) now_is ∙ length-replicate n Inside in
      record {
        long = omega (arith, long, prologue_fits image f, a_is, none);
        each = λ k h. subst (λ (m : Mark). IsMark image f (f.start + k) m) (sym (ap (λ (xs : List Mark). get_or xs k Inside) now_is ∙ marks_inside n k)) (mark_before (f.start + k) (omega (arith, h, long, a_is, none)));
      }

  -- a turn of the cutting marks a piece
  pub marks_more : (a : ℕ) (p : Piece) (m : Mark) (marks more now : List Mark) (n had : ℕ) → AreMarks image f a marks → IsCut image f a → piece_at image f a ≡ Some p → IsMarkOf p.kind m → n ≡ p.next - f.start →
      more ≡ marks ++ m ∷ [] → had ≡ length more → now ≡ take n more ++ replicate (n - had) Inside → AreMarks image f p.next now
  marks_more a p m marks more now n had before cut is of n_is more_is had_is e =
      let fits = piece_fits image f a p is in
      let gained : List Mark = replicate (n - had) Inside in
      let one_more : length more ≡ length marks + 1 = ap (λ (xs : List Mark). length xs) more_is ∙ length_push marks m in
      let room : length more ≤ n = omega (arith, one_more, before.long, fits, n_is) in
      let now_is : now ≡ more ++ gained = e ∙ ap (λ (xs : List Mark). xs ++ gained) (take_all n more room) in
      let long : length now ≡ n = omega (arith, ap (λ (xs : List Mark). length xs) now_is, length-append more gained, length-replicate (n - had) Inside, room, had_is) in
      record {
        long = omega (arith, long, before.long, fits, n_is);
        each = λ k h.
            let told = λ (x : Mark) (value : get_or (more ++ gained) k Inside ≡ x) (mark : IsMark image f (f.start + k) x).
            subst (λ (y : Mark). IsMark image f (f.start + k) y) (sym (ap (λ (xs : List Mark). get_or xs k Inside) now_is ∙ value)) mark in
            elim (cases_lt k (length marks)) [
              | inl old ↦ told (get_or marks k Inside) (get_or_append_left more gained Inside k (omega (arith, old, one_more)) ∙ (ap (λ (xs : List Mark). get_or xs k Inside) more_is ∙ get_or_append_left marks (m ∷ []) Inside k old)) (before.each k old)
              | inr from ↦ elim (cases_lt (length marks) k) [
                | inl past ↦ told Inside (get_or-append_right more gained (length more) k Inside refl (omega (arith, past, one_more)) ∙ marks_inside (n - had) (k - length more)) (mark_inside a p cut is (f.start + k) (omega (arith, past, before.long)) (omega (arith, h, long, n_is, before.long, fits)))
                | inr until ↦ (let here : length marks ≡ k = omega arith in
                    let there : a ≡ f.start + k = omega (arith, here, before.long) in
                    told m (get_or_append_left more gained Inside k (omega (arith, here, one_more)) ∙ (ap (λ (xs : List Mark). get_or xs k Inside) more_is ∙ get_or_push marks m Inside k here)) (subst (λ (x : ℕ). IsMark image f x m) there (mark_here a p m cut is of)))
              ]
            ];
      }

  mark_after : (s : ℕ) → IsStop image f s → (t : ℕ) → s ≤ t → IsMark image f t Inside
  mark_after s stop t past start =
      let q : Piece = start.0 in
      let here : q.at ≡ s = omega (arith, cut_last image f s stop.cut stop.last (start.1).cut, past, start.2) in
      let stands : piece_at image f s ≡ Some q = subst (λ (x : ℕ). piece_at image f x ≡ Some q) here (start.1).stands in
      let none : piece_at image f s ≡ None = stop.last in
      cc

  -- what is found of an address of the function
  pub mark_found : (s : Survey) (t : ℕ) → IsSurvey image f s → f.start ≤ t → IsMark image f t (get_or s.marks.items (t - f.start) Inside)
  mark_found s t survey above =
      elim (cases_lt (t - f.start) (length s.marks.items)) [
        | inl within ↦ subst (λ (x : ℕ). IsMark image f x (get_or s.marks.items (t - f.start) Inside)) (omega arith) (survey.marks.each (t - f.start) within)
        | inr past ↦ subst (λ (m : Mark). IsMark image f t m) (sym (get_or_past s.marks.items (t - f.start) Inside past)) (mark_after s.stop survey.stop t (omega (arith, past, survey.marks.long)))
      ]

  -- no piece starts before the function
  pub mark_below : (t : ℕ) → t < f.start → IsMark image f t Inside
  mark_below t below = mark_before t (omega (arith, below, prologue_fits image f))
