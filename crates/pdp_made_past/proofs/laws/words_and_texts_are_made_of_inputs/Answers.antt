use Rattle.pdp_made_past.proofs.Pasts.{drive_words, punched_texts, texts, words}
use Rattle.pdp_made_past.proofs.laws.words_and_texts_are_made_of_inputs.Goals as goal

pub returns-clause-core : goal.returns-clause-core
returns-clause-core c = words

pub returns-clause-drives : goal.returns-clause-drives
returns-clause-drives c = drive_words

pub returns-clause-printed : goal.returns-clause-printed
returns-clause-printed c = texts

pub returns-clause-punched : goal.returns-clause-punched
returns-clause-punched c = punched_texts
