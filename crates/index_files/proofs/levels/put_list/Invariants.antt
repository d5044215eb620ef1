use Rattle.std.proofs.Common.{◌≡◌, ◌/◌, ℕ, List, take, Ok}
use Rattle.ghost_model.specs.forms.Gaps.{gaps_after, with_codes}
use Rattle.flash_pages.specs.CodeWriters.{HasCodes, WritesUpTo}
use Rattle.index_lists.specs.Lists.{identifiers_of}
use Rattle.index_files.specs.Levels.{begin_behind, codes_end}
use Rattle.index_files.proofs.CodesPut.{last_behind}
use Rattle.index_files.proofs.levels.put_list.Given as goal

abbrev pub invariant-loop-row : goal.invariant-loop-row
invariant-loop-row g l =
    record {
      first : l.codes.filler.first ≡ l.fn.codes.filler.first;
      before : l.before ≡ last_behind 0 (identifiers_of l.rows) l.row-index;
      begin : l.begin ≡ begin_behind l.fn.codes.filler.count (take l.row-index (identifiers_of l.rows));
      end : l.codes.filler.count ≡ codes_end l.fn.codes.filler.count (take l.row-index (gaps_after 0 (identifiers_of l.rows)));
      put : (bytes : List ℕ) → HasCodes g.F.Flash.told (g.F.Flash.state l.fn.flash).page l.fn.buf l.fn.codes bytes
          → HasCodes g.F.Flash.told (g.F.Flash.state l.flash).page l.buf l.codes (with_codes bytes (take l.row-index (gaps_after 0 (identifiers_of l.rows))));
      writes : WritesUpTo {T = ℕ} (g.F.Flash.state l.fn.flash) (g.F.Flash.state l.flash) l.fn.codes
          (codes_end l.fn.codes.filler.count (take l.row-index (gaps_after 0 (identifiers_of l.rows))) / 2048) (Ok 0);
    }
