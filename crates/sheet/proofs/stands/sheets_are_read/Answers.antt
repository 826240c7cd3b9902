-- Each worked sheet by computation.
use Rattle.std.proofs.Common.{refl}
use Rattle.sheet.specs.Reading.{parts, all_digits, value_after}
use Rattle.sheet.proofs.stands.sheets_are_read.Goals as goal

pub returns : goal.returns
unfolding parts all_digits value_after
returns c =
    record {
      value = refl;
      stands =
          record {
            empty = refl;
            two_lines = refl;
            last_fed = refl;
            strobe_and_mask = refl;
            two_spaces = refl;
            missing_word = refl;
            empty_word = refl;
            extra_word = refl;
            empty_line = refl;
            leading_space = refl;
            two_letters = refl;
            small_letter = refl;
            form_first = refl;
            first_number = refl;
            widest = refl;
            too_wide = refl;
            widest_mask = refl;
            too_wide_mask = refl;
            after_carriage_return = refl;
            second_line = refl;
            two_feeds = refl;
          };
    }
