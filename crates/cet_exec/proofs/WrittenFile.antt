-- What a reader meets in the file of a regular executable.
use Rattle.std.proofs.Common.{◌≡◌, ℕ, ◌<◌, ◌^◌, List, [], ◌∷◌, length, All}
use Rattle.cet_elf.specs.declared.exec.Exec.{Exec}
use Rattle.cet_elf.proofs.Stands.{Stands}
use Rattle.cet_exec.specs.Regular.{IsRegularExec, FitsTypes}
use Rattle.cet_exec.specs.Written.{aligned, spaced, bytes_of, laid, front_size, segments_end, own_note, note_end, is_linked, segment_parts, table_parts, section_table, section_table_place, written}
use Rattle.cet_exec.proofs.Standing.{StandsLaid, header_of, program_table_of, header-stands, programs-stand, segments-stand, section_table-stands, segment_sections-stand, table_sections-stand, own_note-stands}

pub record IsFileOf (b : List ℕ) (e : Exec) : Type 0 where
  pub regular : IsRegularExec e
  pub fits : FitsTypes e
  pub short : length b < 2 ^ 64
  pub header : Stands b 0 (header_of e)
  pub programs_stand : Stands b 64 (program_table_of e)
  pub segments_stand : Stands b (front_size e) (spaced 4096 (front_size e) (bytes_of e.segments))
  pub note_stands : (note : List ℕ) → own_note e ≡ note ∷ [] → Stands b (aligned 8 (segments_end e)) note
  pub segment_sections : All (StandsLaid b) (laid 4096 (front_size e) (segment_parts (is_linked e.segments) 0 e.segments))
  pub table_sections : All (StandsLaid b) (laid 8 (note_end e) (table_parts e))
  pub section_headers_stand : Stands b (section_table_place e) (section_table e)

pub written-IsFileOf : (e : Exec) → IsRegularExec e → FitsTypes e → length (written e) < 2 ^ 64 → IsFileOf (written e) e
written-IsFileOf e regular fits short = record {
  regular = regular;
  fits = fits;
  short = short;
  header = header-stands e;
  programs_stand = programs-stand e;
  segments_stand = segments-stand e;
  note_stands = own_note-stands e;
  segment_sections = segment_sections-stand e;
  table_sections = table_sections-stand e;
  section_headers_stand = section_table-stands e;
}
