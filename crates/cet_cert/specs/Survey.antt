-- What a survey of a function tells: where its pieces start, and where the cutting stops.
use Rattle.std.specs.Prelude.{◌≡◌, ◌≢◌, ℕ, ◌+◌, ◌<◌, List, length, slice_index_or, None}
use Rattle.cet_rules.specs.declared.covered.Covered.TheVariants.{EndBr64}
use Rattle.cet_rules.specs.declared.function.Function.{Function}
use Rattle.cet_rules.specs.declared.image.Image.{Image}
use Rattle.cet_rules.specs.declared.piece.PieceKind.{PieceKind}
use Rattle.cet_rules.specs.declared.piece.PieceKind.TheVariants.{Single}
use Rattle.cet_rules.specs.Piece.{IsCut, IsPieceStart, piece_at}
use Rattle.cet_rules.specs.Rule.{IsLanding}
use Rattle.cet_cert.specs.declared.survey.Mark.{Mark}
use Rattle.cet_cert.specs.declared.survey.Mark.TheVariants.{Inside, Start, Landing}
use Rattle.cet_cert.specs.declared.survey.Survey.{Survey}

-- what a mark says of the address t
abbrev pub IsMark : Image → Function → ℕ → Mark → Type 0
IsMark image f t Inside = ¬ IsPieceStart image f t
IsMark image f t Start = IsPieceStart image f t × ¬ IsLanding image f t
IsMark image f t Landing = IsLanding image f t

-- the mark of the start of a piece of this kind
abbrev pub IsMarkOf : PieceKind → Mark → Type 0
IsMarkOf kind Inside = ⊥
IsMarkOf kind Start = kind ≢ Single EndBr64
IsMarkOf kind Landing = kind ≡ Single EndBr64

-- the marks tell each address of the function before a
pub record AreMarks (image : Image) (f : Function) (a : ℕ) (marks : List Mark) : Type 0 where
  pub long : f.start + length marks ≡ a
  pub each : (k : ℕ) → k < length marks → IsMark image f (f.start + k) (slice_index_or marks k Inside)

-- the cutting stops here: at the end of the function, or where no instruction stands
pub record IsStop (image : Image) (f : Function) (a : ℕ) : Type 0 where
  pub cut : IsCut image f a
  pub last : piece_at image f a ≡ None

pub record IsSurvey (image : Image) (f : Function) (s : Survey) : Type 0 where
  pub stop : IsStop image f s.stop
  pub marks : AreMarks image f s.stop s.marks.items
