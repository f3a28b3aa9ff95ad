-- The definitions of amended files.
pub mod DeclaredVariables
pub mod Amendment
pub mod AmendmentContents
pub mod AmendedItems
pub mod AmendedMeaning
pub mod AmendedText
pub mod AmendedCopy
pub mod CodedAmendment
pub mod FreshCodes
pub mod GivenCodes
pub mod WhatStands
pub mod Retimed
pub mod RetimedLaws
pub mod RetimedCopy
pub mod KnownSignals
pub mod inside
