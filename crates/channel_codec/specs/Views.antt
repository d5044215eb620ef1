-- What the codec's frames are as frames of the channel, and what it got as what bytes amount to.
use Rattle.ghost_model.specs.core.Channel as channel
use Rattle.ghost_model.specs.forms.Frames as frames
use Rattle.channel_codec.specs.declared.frame.Frame.{Frame}
use Rattle.channel_codec.specs.declared.frame.Frame.TheVariants.{Hello, Ask, More, Bye, Welcome, Rows, Done, Sorry}
use Rattle.channel_codec.specs.declared.reading.Got.{Got}
use Rattle.channel_codec.specs.declared.reading.Got.TheVariants as got

abbrev pub frame_view : Frame → channel.Frame
frame_view (Hello generation) = channel.HelloFrame generation
frame_view (Ask serial payload) = channel.AskFrame serial payload.now
frame_view (More serial) = channel.MoreFrame serial
frame_view Bye = channel.ByeFrame
frame_view (Welcome last part) = channel.WelcomeFrame last part.now
frame_view (Rows serial rows) = channel.RowsFrame serial rows.now
frame_view (Done serial total) = channel.DoneFrame serial total
frame_view (Sorry serial code) = channel.SorryFrame serial code

abbrev pub got_view : Got → frames.Got
got_view (got.Frame frame) = frames.Found (frame_view frame)
got_view (got.Short missing) = frames.Short missing
got_view (got.Bad kind) = frames.Bad kind
