-- What a reply of the code is made of, over the bytes of a file.
use Rattle.std.specs.Prelude.{ℕ, List}
use Rattle.host_exec.specs.FormViews.{form_view}
use Rattle.host_exec.specs.Saying.{Source}
use Rattle.host_exec.specs.declared.reply.Reply.{Reply}

abbrev pub source_of : Reply → (file : List ℕ) → Source
source_of reply file = record { form = form_view reply.form; file = file; start = reply.start; rows = reply.rows; piece = reply.piece }
