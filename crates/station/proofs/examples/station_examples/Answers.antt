use Rattle.std.proofs.Common.{refl}
use Rattle.vote.specs.Mask.{has, everyone, adding}
use Rattle.turning.specs.Posts.{frames_of}
use Rattle.turning.specs.Round.{around, count_back, count_on}
use Rattle.turning.specs.Steps.{unheard, put_off, any_wish, first_is, served, chosen, serve, say_notes}
use Rattle.turning.specs.Whole.{whole_turn}
use Rattle.station.proofs.examples.station_examples.Goals as goal

pub returns : goal.returns
unfolding has everyone adding frames_of around count_back count_on unheard put_off any_wish first_is served chosen serve say_notes whole_turn
returns c = record { place_six = refl; place_five = refl; alone = refl; put_off_first = refl; heard_stops = refl; wish_first = refl }
