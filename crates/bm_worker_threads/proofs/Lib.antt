-- LastColon: what a split at the last colon of a text gives. Changes: what is changed of a process.
-- MarkTexts: texts that may be there.
mod LastColon
mod Changes
mod MarkTexts
