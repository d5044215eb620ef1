mod GivenValues
mod ReadableFiles
