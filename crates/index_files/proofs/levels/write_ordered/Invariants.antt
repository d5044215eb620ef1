use Rattle.std.proofs.Common.{◌≡◌, ◌+◌, ◌/◌, ◌<◌, ℕ, length, take, Ok, vec_len, vec_capacity}
use Rattle.std.specs.Prelude.{slice_index}
use Rattle.ghost_model.specs.forms.Gaps.{level_bytes, list_begin}
use Rattle.flash_pages.specs.CodeWriters.{HasCodes}
use Rattle.flash_pages.specs.Writers.{Writes}
use Rattle.index_lists.specs.Lists.{lists_of}
use Rattle.index_files.proofs.levels.write_ordered.Given as goal

abbrev pub invariant-loop-entry : goal.invariant-loop-entry
invariant-loop-entry g l =
    record {
      first : l.codes.filler.first ≡ l.first;
      end : l.codes.filler.count ≡ length (level_bytes (take l.entry (lists_of l.ranks l.entries)));
      put : HasCodes g.F.Flash.told (g.F.Flash.state l.flash).page l.buf l.codes (level_bytes (take l.entry (lists_of l.ranks l.entries)));
      count : length l.begins.items ≡ l.entry;
      taken : vec_len l.begins ≡ l.entry;
      room : vec_capacity l.begins ≡ l.entries;
      begins : (entry : ℕ) → entry < l.entry → slice_index l.begins.items entry ≡ list_begin (lists_of l.ranks l.entries) entry;
      writes : Writes {T = ℕ} (g.F.Flash.state l.fn.flash) (g.F.Flash.state l.flash) l.first
          (l.first + length (level_bytes (take l.entry (lists_of l.ranks l.entries))) / 2048)
          (length (level_bytes (take l.entry (lists_of l.ranks l.entries))) / 2048) (Ok 0);
    }
